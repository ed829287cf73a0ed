use Rattle.std.proofs.Common.{◌≡◌, ◌≤◌, ◌-◌, length, take, drop, true, false}
use Rattle.tl_syntax.specs.Lists.{Each}
use Rattle.tl_match.specs.Front.{front, front_cmp, is_passed}
use Rattle.tl_match.proofs.after.rows_before.Given as goal

abbrev pub invariant-loop-low : goal.invariant-loop-low
invariant-loop-low l = record {
  order : l.low ≤ l.high;
  within : l.high ≤ length l.rows;
  before : Each (λ r. is_passed l.ties (front_cmp (front 0 l.lead l.known) r) ≡ true) (take l.low l.rows);
  after : Each (λ r. is_passed l.ties (front_cmp (front 0 l.lead l.known) r) ≡ false) (drop l.high l.rows);
}

abbrev pub decreases-loop-low : goal.decreases-loop-low
decreases-loop-low l = l.high - l.low
