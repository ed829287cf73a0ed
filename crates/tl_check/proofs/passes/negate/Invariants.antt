use Rattle.std.proofs.Common.{drop, map, not}
use Rattle.tl_check.proofs.RunLaws.{BackRuns}
use Rattle.tl_check.specs.Runs.{spread}
use Rattle.tl_check.proofs.passes.negate.Given as goal

abbrev pub invariant-loop-i : goal.invariant-loop-i
invariant-loop-i l = BackRuns (λ k. map not (spread (drop k l.initial.runs))) l.i l.runs l.initial.runs

abbrev pub decreases-loop-i : goal.decreases-loop-i
decreases-loop-i l = l.i
