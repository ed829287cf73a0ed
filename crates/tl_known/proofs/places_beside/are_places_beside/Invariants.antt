use Rattle.std.proofs.Common.{◌-◌, ◌+◌, length, drop}
use Rattle.tl_known.specs.Unset.{ArePlacesBeside}
use Rattle.tl_known.proofs.places_beside.are_places_beside.Given as goal

abbrev pub invariant-loop-k : goal.invariant-loop-k
invariant-loop-k l = record {
  left : ArePlacesBeside l.sets l.fun (drop l.k l.rows) (drop l.l l.others) → ArePlacesBeside l.sets l.fun l.rows l.others;
}

abbrev pub decreases-loop-k : goal.decreases-loop-k
decreases-loop-k l = (length l.rows - l.k) + (length l.others - l.l)
