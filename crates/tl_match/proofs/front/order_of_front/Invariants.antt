use Rattle.std.proofs.Common.{◌≡◌, ◌≤◌, ◌-◌, length, drop}
use Rattle.tl_match.specs.Front.{front, front_cmp}
use Rattle.tl_match.proofs.front.order_of_front.Given as goal

abbrev pub invariant-loop-k : goal.invariant-loop-k
invariant-loop-k l = record {
  within : l.k ≤ length l.lead;
  seen_within : l.seen ≤ l.k;
  same : front_cmp (front 0 l.lead l.known) l.row ≡ front_cmp (front l.seen (drop l.k l.lead) l.known) (drop l.k l.row);
}

abbrev pub decreases-loop-k : goal.decreases-loop-k
decreases-loop-k l = length l.lead - l.k
