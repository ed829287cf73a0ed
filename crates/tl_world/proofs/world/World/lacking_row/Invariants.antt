use Rattle.std.proofs.Common.{◌-◌, length}
use Rattle.std.specs.Prelude.{⊤}
use Rattle.tl_world.proofs.world.World.lacking_row.Given as goal

abbrev pub invariant-loop-k : goal.invariant-loop-k
invariant-loop-k l = ⊤

abbrev pub decreases-loop-k : goal.decreases-loop-k
decreases-loop-k l = length l.rows - l.k
