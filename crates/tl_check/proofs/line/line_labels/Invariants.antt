use Rattle.std.proofs.Common.{◌-◌, ◌++◌, ◌≡◌, ◌≤◌, ◌<◌, ℕ, drop, false}
use Rattle.tl_check.specs.Lines.{truth_from, test_from}
use Rattle.tl_check.proofs.line.line_labels.Given as goal

abbrev pub invariant-loop-change : goal.invariant-loop-change
invariant-loop-change l = record {
  from : l.span.from ≤ l.at;
  to : l.at ≤ l.span.to;
  later : (k : ℕ) → l.at ≤ k → k < l.span.to → truth_from l.truth (drop l.change-index l.line) k ≡ truth_from false l.line k;
  so_far : l.labels ++ test_from (truth_from false l.line) l.at (l.span.to - l.at) ≡
      test_from (truth_from false l.line) l.span.from (l.span.to - l.span.from);
}
