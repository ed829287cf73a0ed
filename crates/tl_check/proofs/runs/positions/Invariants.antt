use Rattle.std.proofs.Common.{◌≡◌, ◌+◌, drop, length}
use Rattle.tl_check.specs.Runs.{spread}
use Rattle.tl_check.proofs.runs.positions.Given as goal

abbrev pub invariant-loop-run : goal.invariant-loop-run
invariant-loop-run l = l.count + length (spread (drop l.run-index l.runs)) ≡ length (spread l.runs)
