use Rattle.std.proofs.Common.{◌≡◌, ◌≤◌, ◌-◌, List, length, take, drop, true}
use Rattle.tl_syntax.specs.declared.value.Value.{Value}
use Rattle.tl_match.specs.Fits.{fits_all, BeginsAs}
use Rattle.tl_match.specs.Front.{seen_in, are_in_turn}
use Rattle.tl_match.proofs.first.put_values.Given as goal

abbrev pub invariant-loop-k : goal.invariant-loop-k
invariant-loop-k l = record {
  within : l.k ≤ length l.parts;
  seen_within : l.seen ≤ l.free;
  size : length l.values ≡ 9;
  count : seen_in 0 l.parts ≡ seen_in l.seen (drop l.k l.parts);
  turn : are_in_turn l.seen (drop l.k l.parts) ≡ true;
  sound : (t : List Value) → BeginsAs l.seen l.values t → fits_all (take l.k l.parts) (take l.k l.row) t ≡ true;
  known : (t : List Value) → fits_all l.parts l.row t ≡ true → BeginsAs l.seen l.values t;
}

abbrev pub decreases-loop-k : goal.decreases-loop-k
decreases-loop-k l = length l.parts - l.k
