use Rattle.std.proofs.Common.{◌≡◌, ◌≤◌, ◌-◌, length, Less, Greater}
use Rattle.std.specs.List.{AllWithin}
use Rattle.std.specs.List.Sorted.{IsNonDecreasingBy}
use Rattle.std.specs.Ordering.{ordering_index}
use Rattle.tl_rows.specs.Plain.{row_cmp}
use Rattle.tl_rows.proofs.row_search.find_in.Given as goal

abbrev pub invariant-loop-low : goal.invariant-loop-low
invariant-loop-low l = record {
  order : l.low ≤ l.high;
  within : l.high ≤ length l.rows;
  before : IsNonDecreasingBy (λ r. ordering_index (row_cmp r l.args)) l.rows → AllWithin (λ r. row_cmp r l.args ≡ Less) l.rows 0 l.low;
  after : IsNonDecreasingBy (λ r. ordering_index (row_cmp r l.args)) l.rows →
      AllWithin (λ r. row_cmp r l.args ≡ Greater) l.rows l.high (length l.rows);
}

abbrev pub decreases-loop-low : goal.decreases-loop-low
decreases-loop-low l = l.high - l.low
