use Rattle.std.proofs.Common.{◌≡◌, map, take}
use Rattle.tl_syntax.specs.Bindings.{assignment_of}
use Rattle.tl_syntax.specs.Substitution.{substituted_term}
use Rattle.tl_syntax.specs.TreeOfTerm.{tree_of_term}
use Rattle.tl_syntax.proofs.term.+put_in_terms.Given as goal

abbrev pub invariant-Terms::with_values-loop-term : goal.invariant-Terms::with_values-loop-term
invariant-Terms::with_values-loop-term l = map tree_of_term l.out.items.items ≡
    map (λ t. substituted_term (assignment_of l.bindings) (tree_of_term t)) (take l.term-index l.term-items)
