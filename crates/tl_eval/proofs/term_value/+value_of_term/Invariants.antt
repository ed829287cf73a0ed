use Rattle.std.proofs.Common.{◌+◌, map, drop}
use Rattle.tl_eval.specs.Frames.{assignment_in}
use Rattle.tl_syntax.specs.TreeOfTerm.{tree_of_term, tree_of_terms}
use Rattle.tl_eval.proofs.Sizes.{term_nodes, terms_nodes}
use Rattle.tl_eval.proofs.TermLaws.{Passed}
use Rattle.tl_eval.proofs.term_value.+value_of_term.Given as goal

abbrev pub decreases-value_of_term : goal.decreases-value_of_term
decreases-value_of_term l = term_nodes (tree_of_term l.t.now)

abbrev pub decreases-value_of_operation : goal.decreases-value_of_operation
decreases-value_of_operation l = term_nodes (tree_of_term l.left.now) + term_nodes (tree_of_term l.right.now)

abbrev pub decreases-value_of_place : goal.decreases-value_of_place
decreases-value_of_place l = 1 + terms_nodes (tree_of_terms l.args.now)

abbrev pub decreases-put_values_of_terms : goal.decreases-put_values_of_terms
decreases-put_values_of_terms l = terms_nodes (tree_of_terms l.ts.now)

abbrev pub invariant-put_values_of_terms-loop-term : goal.invariant-put_values_of_terms-loop-term
invariant-put_values_of_terms-loop-term l = Passed l.w (assignment_in l.frame) (tree_of_terms l.ts)
    (map tree_of_term (drop l.term-index l.term-items)) l.term-index l.row
