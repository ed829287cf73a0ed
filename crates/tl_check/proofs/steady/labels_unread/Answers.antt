use Rattle.std.proofs.Common.{◌∙◌, [], refl, sym}
use Rattle.tl_check.proofs.AtomLaws.{same-marks}
use Rattle.tl_check.proofs.StateLabelLaws.{state-told}
use Rattle.tl_check.specs.Ahead.{true_ahead}
use Rattle.tl_check.specs.StatesAlong.{states_along, course_along}
use Rattle.tl_eval.specs.Frames.{assignment_in}
use Rattle.tl_syntax.specs.TreeOfFormula.{tree_of_formula}
use Rattle.tl_check.proofs.steady.labels_unread.Goals as goal

pub returns-in_ok-labels-in-Ok-clause-labels : goal.returns-in_ok-labels-in-Ok-clause-labels
returns-in_ok-labels-in-Ok-clause-labels c =
    let p = course_along c.args.along.now in
    let e = assignment_in c.args.env.now in
    let f = tree_of_formula c.args.f.now in
    let w = c.args.along.now.task.now.first in
    let told = state-told p e e f w [] c.in-Ok.truth c.requires.state refl c.in-Ok.ensures.value in
    c.in_ok-labels-in-Ok.ensures.same ∙ same-marks (states_along c.args.along.now) c.args.span
    (true_ahead p e f) c.in-Ok.truth c.requires.span (λ v vs. c.is_steady.ensures c.if-not-is_steady.false p e v w vs [] ∙ sym told)
