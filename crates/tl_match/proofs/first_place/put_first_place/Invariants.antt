use Rattle.std.proofs.Common.{◌≡◌, ◌≤◌, ◌-◌, List, length, drop, map}
use Rattle.tl_syntax.specs.declared.value.Value.{Value}
use Rattle.tl_match.specs.Least.{fits_some}
use Rattle.tl_rows.specs.Tables.{whole_row}
use Rattle.tl_match.proofs.first_place.put_first_place.Given as goal

abbrev pub invariant-loop-k : goal.invariant-loop-k
invariant-loop-k l = record {
  within : l.k ≤ length l.rows;
  same : (t : List Value) → fits_some l.parts (drop l.from (map whole_row l.rows)) t ≡
      fits_some l.parts (drop l.k (map whole_row l.rows)) t;
}

abbrev pub decreases-loop-k : goal.decreases-loop-k
decreases-loop-k l = length l.rows - l.k
