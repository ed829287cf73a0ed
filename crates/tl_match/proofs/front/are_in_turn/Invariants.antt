use Rattle.std.proofs.Common.{◌≡◌, ◌≤◌, ◌-◌, length, drop}
use Rattle.tl_match.specs.Front.{are_in_turn}
use Rattle.tl_match.proofs.front.are_in_turn.Given as goal

abbrev pub invariant-loop-k : goal.invariant-loop-k
invariant-loop-k l = record {
  within : l.k ≤ length l.parts;
  seen_within : l.seen ≤ l.k;
  left : are_in_turn 0 l.parts ≡ are_in_turn l.seen (drop l.k l.parts);
}

abbrev pub decreases-loop-k : goal.decreases-loop-k
decreases-loop-k l = length l.parts - l.k
