use Rattle.std.proofs.Common.{◌≡◌, ◌≤◌, ◌-◌, length, map, take}
use Rattle.tl_world.specs.Gathered.{AreTuplesOf}
use Rattle.tl_rows.specs.Tables.{whole_row}
use Rattle.tl_world.proofs.gathered.tuples_of_places.Given as goal

abbrev pub invariant-loop-k : goal.invariant-loop-k
invariant-loop-k l = record {
  within : l.k ≤ length l.rows;
  leading : l.lead ≡ take (length l.parts - 1) l.parts;
  tuples : AreTuplesOf l.free l.parts (take l.k (map whole_row l.rows)) l.tuples.items;
}

abbrev pub decreases-loop-k : goal.decreases-loop-k
decreases-loop-k l = length l.rows - l.k
