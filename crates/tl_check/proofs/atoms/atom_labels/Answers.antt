use Rattle.std.proofs.Common.{◌≡◌, List, Bool, Some, Option, IfSome, ◌∙◌, subst}
use Rattle.tl_check.proofs.AtomLaws.{if-ok, if-some, atom-marks}
use Rattle.tl_eval.specs.Frames.{assignment_in}
use Rattle.tl_syntax.specs.declared.value.Value.{Value}
use Rattle.tl_syntax.specs.TreeOfTerm.{tree_of_terms}
use Rattle.tl_terms.specs.Terms.{term_values}
use Rattle.tl_terms.specs.World.{World}
use Rattle.tl_check.specs.StatesAlong.{states_along, course_along}
use Rattle.tl_check.proofs.atoms.atom_labels.Goals as goal

pub returns-in-Some : goal.returns-in-Some
returns-in-Some c =
    let e = assignment_in c.args.env.now in
    let values = subst (λ (o : Option (List Value)). IfSome o (λ vs. (w : World) → term_values w e (tree_of_terms c.args.terms.now) ≡
    Some vs)) c.in-Some.is c.in_ok-row.ensures in
    if-ok _ _ (λ o. if-some _ _ (λ (labels : List Bool) h. h ∙ atom-marks (course_along c.args.along.now) e
    (states_along c.args.along.now) c.args.span c.args.pred (tree_of_terms c.args.terms.now) c.in-Some.row values) o)
    c.fact_labels.result c.fact_labels.ensures
