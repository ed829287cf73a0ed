use Rattle.std.proofs.Common.{◌≤◌, ◌-◌, length, take, ◌&&◌}
use Rattle.tl_match.specs.Least.{IsLeast, fits_some, above}
use Rattle.tl_match.proofs.next.least_in_rows.Given as goal

abbrev pub invariant-loop-k : goal.invariant-loop-k
invariant-loop-k l = record {
  within : l.k ≤ length l.rows;
  least : IsLeast l.free (λ t. fits_some l.parts (take l.k l.rows) t && above l.after l.free t) l.best;
}

abbrev pub decreases-loop-k : goal.decreases-loop-k
decreases-loop-k l = length l.rows - l.k
