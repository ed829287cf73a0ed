use Rattle.std.proofs.Common.{◌≡◌, ◌≤◌, ◌-◌, length, map, take}
use Rattle.tl_rows.specs.Second.{exchanged}
use Rattle.tl_rows.proofs.second_made.each_exchanged.Given as goal

abbrev pub invariant-loop-k : goal.invariant-loop-k
invariant-loop-k l = record {
  within : l.k ≤ length l.rows;
  made : l.out.items ≡ map exchanged (take l.k l.rows);
}

abbrev pub decreases-loop-k : goal.decreases-loop-k
decreases-loop-k l = length l.rows - l.k
