use Rattle.std.proofs.Common.{◌≡◌, ◌+◌, ◌*◌, ◌≤◌, map, drop}
use Rattle.tl_sexpr.specs.Tree.{tree_of}
use Rattle.tl_syntax.specs.TreeOfFormula.{tree_of_formula}
use Rattle.tl_formulas.specs.MeaningOfFormulas.{formulas_meant}
use Rattle.tl_rules.specs.Parts.{size, sizes}
use Rattle.tl_formulas.specs.Formulas.{formulas_breaks}
use Rattle.tl_formulas.specs.Shapes.{pair_trees, elements_of_parts}
use Rattle.tl_rules.specs.Reads.{trees_in}
use Rattle.tl_formulas.proofs.FormulaTrees.{after_formulas}
use Rattle.tl_formulas.proofs.+formula.Given as goal

abbrev pub decreases-formulas::formula : goal.decreases-formulas::formula
decreases-formulas::formula l = 6 * size (tree_of l.form.now)

abbrev pub decreases-formulas::formula_call : goal.decreases-formulas::formula_call
decreases-formulas::formula_call l = 6 * sizes (trees_in l.call.rest.now) + 4

abbrev pub decreases-formulas::shaped_formula : goal.decreases-formulas::shaped_formula
decreases-formulas::shaped_formula l = 6 * sizes (elements_of_parts l.parts) + 3

abbrev pub decreases-formulas::boxed : goal.decreases-formulas::boxed
decreases-formulas::boxed l = 6 * size (tree_of l.form.now) + 1

abbrev pub decreases-formulas::unary : goal.decreases-formulas::unary
decreases-formulas::unary l = 6 * size (tree_of l.form.now) + 2

abbrev pub decreases-formulas::binary : goal.decreases-formulas::binary
decreases-formulas::binary l = 6 * sizes (pair_trees l.pair) + 2

abbrev pub decreases-formulas::many : goal.decreases-formulas::many
decreases-formulas::many l = 6 * sizes (trees_in l.forms.now) + 1

abbrev pub decreases-quantifiers::quantifier : goal.decreases-quantifiers::quantifier
decreases-quantifiers::quantifier l = 6 * size (tree_of l.quantified.form.now) + 2

abbrev pub decreases-quantifiers::over_steps : goal.decreases-quantifiers::over_steps
decreases-quantifiers::over_steps l = 6 * size (tree_of l.counted.form.now) + 2

abbrev pub decreases-formulas::formulas : goal.decreases-formulas::formulas
decreases-formulas::formulas l = 6 * sizes (trees_in l.forms.now)

-- the formulas so far, and after them those that are left
abbrev pub invariant-formulas::formulas-loop-form : goal.invariant-formulas::formulas-loop-form
invariant-formulas::formulas-loop-form l = record {
  breaks : formulas_breaks l.role l.vocabulary.declared.now l.scope (trees_in l.forms) ≡
      formulas_breaks l.role l.vocabulary.declared.now l.scope (trees_in (drop l.form-index l.forms));
  meant : formulas_meant l.vocabulary.names.now l.vocabulary.declared.now l.scope (trees_in l.forms) ≡
      after_formulas (map tree_of_formula l.formulas.items.items) (formulas_meant l.vocabulary.names.now l.vocabulary.declared.now l.scope
      (trees_in (drop l.form-index l.forms)));
  fewer : sizes (trees_in (drop l.form-index l.forms)) ≤ sizes (trees_in l.forms);
}
