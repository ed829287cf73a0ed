use Rattle.std.proofs.Common.{◌≡◌, ◌≤◌, length}
use Rattle.tl_rows.specs.Tables.{fact_tables}
use Rattle.tl_rows.proofs.kept.keep_second_orders.Given as goal

abbrev pub invariant-loop-i : goal.invariant-loop-i
invariant-loop-i l = record {
  within : l.i ≤ length l.tables.items;
  same : fact_tables l.tables.items ≡ fact_tables l.initial.tables.items;
}

abbrev pub decreases-loop-i : goal.decreases-loop-i
decreases-loop-i l = l.i
