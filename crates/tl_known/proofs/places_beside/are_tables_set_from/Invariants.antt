use Rattle.std.proofs.Common.{◌-◌, [], length, drop}
use Rattle.tl_known.specs.Unset.{ArePlaceTablesBeside}
use Rattle.tl_known.proofs.places_beside.are_tables_set_from.Given as goal

abbrev pub invariant-loop-i : goal.invariant-loop-i
invariant-loop-i l = record {
  left : ArePlaceTablesBeside l.sets (drop l.i l.tables) [] → ArePlaceTablesBeside l.sets (drop l.from l.tables) [];
}

abbrev pub decreases-loop-i : goal.decreases-loop-i
decreases-loop-i l = length l.tables - l.i
