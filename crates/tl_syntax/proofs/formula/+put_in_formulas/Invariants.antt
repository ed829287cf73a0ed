use Rattle.std.proofs.Common.{◌≡◌, map, take}
use Rattle.tl_syntax.specs.Bindings.{assignment_of}
use Rattle.tl_syntax.specs.Substitution.{substituted}
use Rattle.tl_syntax.specs.TreeOfFormula.{tree_of_formula}
use Rattle.tl_syntax.proofs.formula.+put_in_formulas.Given as goal

abbrev pub invariant-Formulas::with_values-loop-formula : goal.invariant-Formulas::with_values-loop-formula
invariant-Formulas::with_values-loop-formula l = map tree_of_formula l.out.items.items ≡
    map (λ f. substituted (assignment_of l.bindings) (tree_of_formula f)) (take l.formula-index l.formula-items)
