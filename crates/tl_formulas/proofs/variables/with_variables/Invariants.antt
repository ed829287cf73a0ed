use Rattle.std.proofs.Common.{◌≡◌, ◌+◌, ◌≤◌, ◌++◌, length, drop}
use Rattle.tl_rules.specs.Parts.{texts_of}
use Rattle.tl_rules.specs.Reads.{trees_in}
use Rattle.tl_formulas.proofs.variables.with_variables.Given as goal

-- the scope so far, and the variables that are left
abbrev pub invariant-loop-form : goal.invariant-loop-form
invariant-loop-form l = record {
  texts : l.scope ++ texts_of (trees_in l.variables) ≡ l.inner ++ texts_of (trees_in (drop l.form-index l.variables));
  few : length l.inner ≤ length l.scope + l.form-index;
}
