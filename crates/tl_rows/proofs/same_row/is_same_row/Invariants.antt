use Rattle.std.proofs.Common.{◌≡◌, ◌≤◌, ◌-◌, length, drop}
use Rattle.tl_rows.specs.Codes.{values_eq}
use Rattle.tl_rows.proofs.same_row.is_same_row.Given as goal

abbrev pub invariant-loop-i : goal.invariant-loop-i
invariant-loop-i l = record {
  within : l.i ≤ length l.a;
  left : values_eq l.a l.b ≡ values_eq (drop l.i l.a) (drop l.i l.b);
}

abbrev pub decreases-loop-i : goal.decreases-loop-i
decreases-loop-i l = length l.a - l.i
