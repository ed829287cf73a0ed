use Rattle.std.proofs.Common.{◌≡◌, ◌≤◌, ◌-◌, length, drop}
use Rattle.tl_rows.specs.Tables.{row_cmp}
use Rattle.tl_rows.proofs.row_order.order_of.Given as goal

abbrev pub invariant-loop-k : goal.invariant-loop-k
invariant-loop-k l = record {
  within : l.k ≤ length l.row;
  within_args : l.k ≤ length l.args;
  left : row_cmp l.row l.args ≡ row_cmp (drop l.k l.row) (drop l.k l.args);
}

abbrev pub decreases-loop-k : goal.decreases-loop-k
decreases-loop-k l = length l.row - l.k
