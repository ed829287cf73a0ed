use Rattle.std.proofs.Common.{◌≡◌, ◌++◌, drop}
use Rattle.tl_formulas.specs.Bounds.{bounds_breaks}
use Rattle.tl_formulas.specs.MeaningOfBounds.{bounds_meant}
use Rattle.tl_rules.specs.Reads.{trees_in}
use Rattle.tl_formulas.proofs.bounds.bounds.Given as goal

-- the bounds so far, and after them those that are left
abbrev pub invariant-loop-form : goal.invariant-loop-form
invariant-loop-form l = record {
  breaks : bounds_breaks l.vocabulary.declared.now l.scope (trees_in l.forms) ≡
      bounds_breaks l.vocabulary.declared.now l.scope (trees_in (drop l.form-index l.forms));
  meant : bounds_meant l.vocabulary.names.now l.vocabulary.declared.now l.scope (trees_in l.forms) ≡ l.bounds ++
      bounds_meant l.vocabulary.names.now l.vocabulary.declared.now l.scope (trees_in (drop l.form-index l.forms));
}
