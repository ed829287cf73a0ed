use Rattle.std.proofs.Common.{◌≡◌, ◌≤◌, length, drop}
use Rattle.tl_match.specs.Fits.{Known}
use Rattle.tl_match.proofs.row_match.gather.Given as goal

abbrev pub invariant-loop-k : goal.invariant-loop-k
invariant-loop-k l = record {
  within : l.k ≤ length l.parts;
  size : length l.values ≡ 9;
  known : Known (drop l.k l.parts) (drop l.k l.row) l.values;
}

abbrev pub decreases-loop-k : goal.decreases-loop-k
decreases-loop-k l = l.k
