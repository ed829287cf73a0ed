use Rattle.std.proofs.Common.{◌≡◌, ◌≤◌, ◌-◌, length, take}
use Rattle.tl_syntax.specs.Lists.{Rises}
use Rattle.tl_rows.specs.Tables.{row_cmp}
use Rattle.tl_rows.proofs.second_made.in_order.Given as goal

abbrev pub invariant-loop-k : goal.invariant-loop-k
invariant-loop-k l = record {
  within : l.k ≤ length l.rows;
  rows : l.out ≡ take l.k l.rows;
  order : Rises row_cmp (take l.k l.rows);
}

abbrev pub decreases-loop-k : goal.decreases-loop-k
decreases-loop-k l = length l.rows - l.k
