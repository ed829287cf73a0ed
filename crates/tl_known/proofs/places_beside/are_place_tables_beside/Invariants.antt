use Rattle.std.proofs.Common.{◌-◌, ◌+◌, length, drop}
use Rattle.tl_known.specs.Unset.{ArePlaceTablesBeside}
use Rattle.tl_known.proofs.places_beside.are_place_tables_beside.Given as goal

abbrev pub invariant-loop-i : goal.invariant-loop-i
invariant-loop-i l = record {
  left : ArePlaceTablesBeside l.sets (drop l.i l.tables) (drop l.j l.others) → ArePlaceTablesBeside l.sets l.tables l.others;
}

abbrev pub decreases-loop-i : goal.decreases-loop-i
decreases-loop-i l = (length l.tables - l.i) + (length l.others - l.j)
