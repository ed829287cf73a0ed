use Rattle.std.proofs.Common.{◌≡◌, map, drop}
use Rattle.tl_eval.specs.Notes.{prefixed}
use Rattle.tl_eval.specs.Frames.{assignment_in}
use Rattle.tl_syntax.specs.TreeOfTerm.{tree_of_term, tree_of_terms, terms_of_list}
use Rattle.tl_terms.specs.Terms.{term_values}
use Rattle.tl_terms.specs.World.{World}
use Rattle.tl_check.proofs.atoms.row_of_terms.Given as goal

abbrev pub invariant-loop-term : goal.invariant-loop-term
invariant-loop-term l = (w : World) → term_values w (assignment_in l.env) (tree_of_terms l.terms) ≡
    prefixed l.row (term_values w (assignment_in l.env) (terms_of_list (map tree_of_term (drop l.term-index l.term-items))))
