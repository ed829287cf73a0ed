use Rattle.std.proofs.Common.{◌≡◌, ◌++◌, drop, false}
use Rattle.tl_formulas.specs.Goals.{arguments_breaks}
use Rattle.tl_formulas.specs.MeaningOfTerms.{arguments_meant}
use Rattle.tl_rules.specs.Parts.{any_list}
use Rattle.tl_rules.specs.Reads.{trees_in}
use Rattle.tl_formulas.proofs.arguments.arguments.Given as goal

-- the arguments so far, and after them those that are left
abbrev pub invariant-loop-form : goal.invariant-loop-form
invariant-loop-form l = record {
  no_list : any_list (trees_in (drop l.form-index l.forms)) ≡ false;
  breaks : arguments_breaks l.scope (trees_in l.forms) ≡ arguments_breaks l.scope (trees_in (drop l.form-index l.forms));
  meant : arguments_meant l.vocabulary.names.now l.scope (trees_in l.forms) ≡ l.args ++
      arguments_meant l.vocabulary.names.now l.scope (trees_in (drop l.form-index l.forms));
}
