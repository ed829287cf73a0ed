use Rattle.std.proofs.Common.{◌≡◌, ◌++◌, drop}
use Rattle.tl_check.specs.Runs.{spread}
use Rattle.tl_check.proofs.runs.add_all.Given as goal

abbrev pub invariant-loop-run : goal.invariant-loop-run
invariant-loop-run l = spread l.runs.items ++ spread (drop l.run-index l.others) ≡ spread l.fn.runs.items ++ spread l.others
