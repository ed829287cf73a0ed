use Rattle.std.proofs.Common.{◌≡◌, ◌+◌, ◌*◌, ◌≤◌, map, drop}
use Rattle.tl_sexpr.specs.Tree.{tree_of}
use Rattle.tl_syntax.specs.TreeOfTerm.{tree_of_term}
use Rattle.tl_formulas.specs.MeaningOfTerms.{terms_meant}
use Rattle.tl_rules.specs.Parts.{size, sizes}
use Rattle.tl_formulas.specs.Terms.{terms_breaks}
use Rattle.tl_rules.specs.Reads.{trees_in}
use Rattle.tl_formulas.proofs.TermTrees.{after_terms}
use Rattle.tl_formulas.proofs.terms.+term.Given as goal

abbrev pub decreases-term : goal.decreases-term
decreases-term l = 4 * size (tree_of l.form.now)

abbrev pub decreases-term_call : goal.decreases-term_call
decreases-term_call l = 4 * sizes (trees_in l.call.rest.now) + 2

abbrev pub decreases-fluent : goal.decreases-fluent
decreases-fluent l = 4 * sizes (trees_in l.call.rest.now) + 1

abbrev pub decreases-arithmetic : goal.decreases-arithmetic
decreases-arithmetic l = 4 * sizes (trees_in l.call.rest.now) + 1

abbrev pub decreases-terms : goal.decreases-terms
decreases-terms l = 4 * sizes (trees_in l.forms.now)

-- the terms so far, and after them those that are left
abbrev pub invariant-terms-loop-form : goal.invariant-terms-loop-form
invariant-terms-loop-form l = record {
  breaks : terms_breaks l.vocabulary.declared.now.functions l.scope (trees_in l.forms) ≡
      terms_breaks l.vocabulary.declared.now.functions l.scope (trees_in (drop l.form-index l.forms));
  meant : terms_meant l.vocabulary.names.now l.vocabulary.declared.now.functions l.scope (trees_in l.forms) ≡
      after_terms (map tree_of_term l.terms.items.items) (terms_meant l.vocabulary.names.now l.vocabulary.declared.now.functions l.scope
      (trees_in (drop l.form-index l.forms)));
  fewer : sizes (trees_in (drop l.form-index l.forms)) ≤ sizes (trees_in l.forms);
}
