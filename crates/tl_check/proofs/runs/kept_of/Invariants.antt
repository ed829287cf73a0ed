use Rattle.std.proofs.Common.{◌≡◌, ◌++◌, take, drop}
use Rattle.tl_check.specs.Runs.{spread}
use Rattle.tl_check.proofs.runs.kept_of.Given as goal

abbrev pub invariant-loop-i : goal.invariant-loop-i
invariant-loop-i l = take l.count (spread l.runs) ≡ spread (take l.i l.runs) ++ take l.left (spread (drop l.i l.runs))
