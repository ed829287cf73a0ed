use Rattle.std.proofs.Common.{◌≡◌, ◌≤◌, ◌-◌, length, drop}
use Rattle.tl_match.specs.Fits.{fits_all}
use Rattle.tl_match.proofs.row_match.fits.Given as goal

abbrev pub invariant-loop-k : goal.invariant-loop-k
invariant-loop-k l = record {
  within : l.k ≤ length l.parts;
  left : fits_all l.parts l.row l.tuple ≡ fits_all (drop l.k l.parts) (drop l.k l.row) l.tuple;
}

abbrev pub decreases-loop-k : goal.decreases-loop-k
decreases-loop-k l = length l.parts - l.k
