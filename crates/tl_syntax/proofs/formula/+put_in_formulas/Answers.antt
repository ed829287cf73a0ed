use Rattle.std.proofs.Common.{map, ap, ◌∙◌, take_all}
use Rattle.tl_syntax.specs.declared.formula.Formula.{Formula}
use Rattle.tl_syntax.specs.Bindings.{assignment_of}
use Rattle.tl_syntax.specs.Substitution.{substituted}
use Rattle.tl_syntax.specs.TreeOfFormula.{tree_of_formula}
use Rattle.tl_syntax.proofs.Bindings.{substituted-Formulas}
use Rattle.tl_syntax.proofs.formula.+put_in_formulas.Goals as goal

pub Formulas::with_values-returns : goal.Formulas::with_values-returns
Formulas::with_values-returns t c =
    let e = assignment_of c.args.bindings.now in
    record {
      substituted =
          substituted-Formulas e c.args.self.now c.loop-formula.out (c.loop-formula.invariant
          ∙ ap (map (λ (x : Formula). substituted e (tree_of_formula x)))
          (take_all _ _ c.loop-formula-test.false ∙ c.deref-formula-items.ensures.value));
    }
