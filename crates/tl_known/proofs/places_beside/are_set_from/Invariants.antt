use Rattle.std.proofs.Common.{◌-◌, [], length, drop}
use Rattle.tl_known.specs.Unset.{ArePlacesBeside}
use Rattle.tl_known.proofs.places_beside.are_set_from.Given as goal

abbrev pub invariant-loop-k : goal.invariant-loop-k
invariant-loop-k l = record {
  left : ArePlacesBeside l.sets l.fun (drop l.k l.rows) [] → ArePlacesBeside l.sets l.fun (drop l.from l.rows) [];
}

abbrev pub decreases-loop-k : goal.decreases-loop-k
decreases-loop-k l = length l.rows - l.k
