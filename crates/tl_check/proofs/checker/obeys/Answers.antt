use Rattle.std.proofs.Common.{◌<◌, length, ap, arith}
use Rattle.tl_check.proofs.JudgeLaws.{first, nothing-given, control-is, obeys-told, obeys-noted}
use Rattle.tl_check.proofs.SpanLaws.{marks_in-length}
use Rattle.tl_check.proofs.StatesLaws.{passed-on}
use Rattle.tl_check.specs.Ahead.{true_ahead}
use Rattle.tl_check.specs.Facts.{IsAlong}
use Rattle.tl_check.specs.Judged.{Obeys}
use Rattle.tl_check.specs.Labelled.{AreLabels}
use Rattle.tl_check.specs.StatesAlong.{course_along, states_along}
use Rattle.tl_check.specs.declared.along.Along.{Along}
use Rattle.tl_eval.specs.Frames.{assignment_in}
use Rattle.tl_syntax.specs.TreeOfFormula.{tree_of_formula}
use Rattle.tl_check.proofs.checker.obeys.Goals as goal

some-along : (a : Along) → IsAlong a → 0 < length (states_along a)
some-along a is = omega (arith, is.again, is.count)

pub labels_of-requires-clause-span : goal.labels_of-requires-clause-span
labels_of-requires-clause-span c =
    let a = c.args.along.now in
    let some = some-along a c.requires in
    record { order = omega arith; within = omega (arith, some) }

pub at-requires : goal.at-requires
at-requires c =
    let a = c.args.along.now in
    let some = some-along a c.requires in
    let f = tree_of_formula a.task.now.problem.domain.control in
    omega (
      arith,
      ap length c.in_ok-labels.ensures.labels,
      marks_in-length (true_ahead (course_along a) (assignment_in c.in_ok-env.env) f)
          (states_along a) first (record { order = omega arith; within = omega (arith, some) }),
    )

pub returns : goal.returns
returns c =
    let a = c.args.along.now in
    let e = assignment_in c.in_ok-env.env in
    let f = tree_of_formula a.task.now.problem.domain.control in
    obeys-told (course_along a) (states_along a) (some-along a c.requires) e f (nothing-given e c.in_ok-env.ensures.empty)
    (control-is a.task.now.problem) c.in_ok-labels.labels c.at.result c.in_ok-labels.ensures.labels c.at.ensures

pub returns-in_err-labels : goal.returns-in_err-labels
returns-in_err-labels c =
    let a = c.args.along.now in
    let e = assignment_in c.in_ok-env.env in
    let f = tree_of_formula a.task.now.problem.domain.control in
    let p = course_along a in
    let ws = states_along a in
    passed-on a (AreLabels p ws first e f) (Obeys p ws) (λ y h. obeys-noted p ws (some-along a c.requires) e f
    (nothing-given e c.in_ok-env.ensures.empty) (control-is a.task.now.problem) y h)
    c.from_residual-in_err-labels.result c.in_err-labels.field-0.0 c.from_residual-in_err-labels.ensures.1 c.in_err-labels.ensures.labels
