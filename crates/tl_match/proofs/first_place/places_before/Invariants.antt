use Rattle.std.proofs.Common.{◌≡◌, ◌≤◌, ◌-◌, length, true}
use Rattle.std.specs.List.{AllWithin}
use Rattle.std.specs.Ordering.{is_gt}
use Rattle.tl_rows.specs.declared.table.PlaceRow.{PlaceRow}
use Rattle.tl_match.specs.Front.{front, front_cmp}
use Rattle.tl_match.proofs.first_place.places_before.Given as goal

abbrev pub invariant-loop-low : goal.invariant-loop-low
invariant-loop-low l = record {
  order : l.low ≤ l.high;
  within : l.high ≤ length l.rows;
  before : AllWithin (λ (r : PlaceRow). is_gt (front_cmp (front 0 l.lead l.known) r.args) ≡ true) l.rows 0 l.low;
}

abbrev pub decreases-loop-low : goal.decreases-loop-low
decreases-loop-low l = l.high - l.low
