use Rattle.std.proofs.Common.{◌-◌, [], length, drop}
use Rattle.tl_known.specs.Unchanged.{AreRowsBeside}
use Rattle.tl_known.proofs.rows_beside.are_named_from.Given as goal

abbrev pub invariant-loop-k : goal.invariant-loop-k
invariant-loop-k l = record {
  left : AreRowsBeside l.dels l.adds l.pred (drop l.k l.rows) [] → AreRowsBeside l.dels l.adds l.pred (drop l.from l.rows) [];
}

abbrev pub decreases-loop-k : goal.decreases-loop-k
decreases-loop-k l = length l.rows - l.k
