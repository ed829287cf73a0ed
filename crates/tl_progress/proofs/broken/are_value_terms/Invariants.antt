use Rattle.std.proofs.Common.{◌≡◌, ◌≤◌, ◌-◌, length, drop}
use Rattle.tl_progress.specs.Broken.{are_value_terms}
use Rattle.tl_progress.proofs.broken.are_value_terms.Given as goal

abbrev pub invariant-loop-k : goal.invariant-loop-k
invariant-loop-k l = record {
  within : l.k ≤ length l.terms;
  left : are_value_terms l.terms l.values ≡ are_value_terms (drop l.k l.terms) (drop l.k l.values);
}

abbrev pub decreases-loop-k : goal.decreases-loop-k
decreases-loop-k l = length l.terms - l.k
