use Rattle.tl_check.proofs.RunLaws.{AlwaysSoFar}
use Rattle.tl_check.proofs.passes.always.Given as goal

abbrev pub invariant-loop-i : goal.invariant-loop-i
invariant-loop-i l = AlwaysSoFar l.i l.later l.runs l.initial.runs

abbrev pub decreases-loop-i : goal.decreases-loop-i
decreases-loop-i l = l.i
