use Rattle.std.proofs.Common.{◌≡◌, drop, get_or, false}
use Rattle.tl_check.specs.Runs.{spread}
use Rattle.tl_check.proofs.runs.at.Given as goal

abbrev pub invariant-loop-run : goal.invariant-loop-run
invariant-loop-run l = get_or (spread l.runs) l.i false ≡ get_or (spread (drop l.run-index l.runs)) l.left false
