use Rattle.std.proofs.Common.{ℕ, ◌-◌, ◌<◌, ◌≤◌, ◌≢◌, length, slice_index}
use Rattle.tl_sexpr.proofs.scan.comment_end.Given as goal

abbrev pub invariant-loop-at : goal.invariant-loop-at
invariant-loop-at l = record {
  after : l.from < l.at;
  bounded : l.at ≤ length l.bytes;
  same_line : (k : ℕ) → l.from ≤ k → k < l.at → slice_index l.bytes k ≢ 10;
}

abbrev pub decreases-loop-at : goal.decreases-loop-at
decreases-loop-at l = length l.bytes - l.at
