use Rattle.std.proofs.Common.{◌≡◌, ◌++◌, drop}
use Rattle.tl_check.specs.Runs.{spread}
use Rattle.tl_check.proofs.runs.runs_from.Given as goal

abbrev pub invariant-loop-run : goal.invariant-loop-run
invariant-loop-run l = spread l.made.items ++ drop l.left (spread (drop l.run-index l.runs)) ≡ drop l.at (spread l.runs)
