use Rattle.std.proofs.Common.{◌-◌, ◌+◌, length, drop}
use Rattle.tl_known.specs.Unchanged.{AreRowsBeside}
use Rattle.tl_known.proofs.rows_beside.are_rows_beside.Given as goal

abbrev pub invariant-loop-k : goal.invariant-loop-k
invariant-loop-k l = record {
  left : AreRowsBeside l.dels l.adds l.pred (drop l.k l.rows) (drop l.l l.others) → AreRowsBeside l.dels l.adds l.pred l.rows l.others;
}

abbrev pub decreases-loop-k : goal.decreases-loop-k
decreases-loop-k l = (length l.rows - l.k) + (length l.others - l.l)
