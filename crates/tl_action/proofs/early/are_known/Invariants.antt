use Rattle.std.proofs.Common.{◌≡◌, drop}
use Rattle.std.specs.List.{list_all}
use Rattle.tl_action.specs.Early.{is_known_term}
use Rattle.tl_syntax.specs.TreeOfTerm.{tree_of_term}
use Rattle.tl_action.proofs.early.are_known.Given as goal

abbrev pub invariant-loop-term : goal.invariant-loop-term
invariant-loop-term l = list_all (λ t. is_known_term l.bounds l.j (tree_of_term t)) l.terms ≡
    list_all (λ t. is_known_term l.bounds l.j (tree_of_term t)) (drop l.term-index l.terms)
