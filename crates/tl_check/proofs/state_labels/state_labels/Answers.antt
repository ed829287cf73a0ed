use Rattle.std.proofs.Common.{List, length, Ok, Err, sym, subst}
use Rattle.tl_check.proofs.StatesLaws.{fault-passed}
use Rattle.tl_check.specs.Labelled.{AreLabels}
use Rattle.tl_check.specs.Spans.{IsWithin}
use Rattle.tl_check.specs.StatesAlong.{states_along, course_along}
use Rattle.tl_eval.specs.Frames.{assignment_in}
use Rattle.tl_syntax.specs.TreeOfFormula.{tree_of_formula}
use Rattle.tl_terms.specs.World.{World}
use Rattle.tl_check.proofs.state_labels.state_labels.Goals as goal

pub labels_in-requires-clause-span : goal.labels_in-requires-clause-span
labels_in-requires-clause-span c = subst (λ (ws : List World). IsWithin c.args.span (length ws)) (sym c.in-Some.ensures.all) c.requires.span

pub returns-in_ok-labels-in-Some-clause-labels : goal.returns-in_ok-labels-in-Some-clause-labels
returns-in_ok-labels-in-Some-clause-labels c =
    subst (λ (ws : List World). AreLabels (course_along c.args.along.now) ws c.args.span (assignment_in c.args.env.now)
    (tree_of_formula c.args.f.now) (Ok c.in_ok-labels-in-Some.labels)) c.in-Some.ensures.all c.in_ok-labels-in-Some.ensures.labels

pub returns-in_err-labels-in-Some-clause-labels : goal.returns-in_err-labels-in-Some-clause-labels
returns-in_err-labels-in-Some-clause-labels c =
    let says = λ (ws : List World). AreLabels (course_along c.args.along.now) ws c.args.span (assignment_in c.args.env.now)
    (tree_of_formula c.args.f.now) in
    let noted = subst (λ (ws : List World). says ws (Err c.in_err-labels-in-Some.field-0.0)) c.in-Some.ensures.all
    c.in_err-labels-in-Some.ensures.labels in
    fault-passed c.args.along.now (says (states_along c.args.along.now)) c.from_residual.result c.in_err-labels-in-Some.field-0.0
    c.from_residual.ensures.1 noted
