use Rattle.std.proofs.Common.{◌≤◌, ◌-◌, length, take}
use Rattle.tl_world.specs.Gathered.{AreTuplesOf}
use Rattle.tl_world.proofs.gathered.tuples_of_rows.Given as goal

abbrev pub invariant-loop-k : goal.invariant-loop-k
invariant-loop-k l = record {
  within : l.k ≤ length l.rows;
  tuples : AreTuplesOf l.free l.parts (take l.k l.rows) l.tuples.items;
}

abbrev pub decreases-loop-k : goal.decreases-loop-k
decreases-loop-k l = length l.rows - l.k
