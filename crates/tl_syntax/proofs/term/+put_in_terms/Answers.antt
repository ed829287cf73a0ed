use Rattle.std.proofs.Common.{map, ap, ◌∙◌, take_all}
use Rattle.tl_syntax.specs.declared.term.Term.{Term}
use Rattle.tl_syntax.specs.Bindings.{assignment_of}
use Rattle.tl_syntax.specs.Substitution.{substituted_term}
use Rattle.tl_syntax.specs.TreeOfTerm.{tree_of_term}
use Rattle.tl_syntax.proofs.Bindings.{substituted-Terms}
use Rattle.tl_syntax.proofs.term.+put_in_terms.Goals as goal

pub Terms::with_values-returns : goal.Terms::with_values-returns
Terms::with_values-returns t c =
    let e = assignment_of c.args.bindings.now in
    record {
      substituted =
          substituted-Terms e c.args.self.now c.loop-term.out (c.loop-term.invariant
          ∙ ap (map (λ (x : Term). substituted_term e (tree_of_term x)))
          (take_all _ _ c.loop-term-test.false ∙ c.deref-term-items.ensures.value));
    }
