use Rattle.std.proofs.Common.{◌-◌, ℕ, refl, sym, ap, ◌∙◌, suc, drop, arith}
use Rattle.tl_check.proofs.AtomLaws.{labels-end, world-here}
use Rattle.tl_check.proofs.LineLaws.{labels-on}
use Rattle.tl_check.proofs.SpanLaws.{test_from-marks}
use Rattle.tl_check.proofs.StateLabelLaws.{state-noted, state-told}
use Rattle.tl_check.specs.Ahead.{true_ahead}
use Rattle.tl_check.specs.Lines.{test_from}
use Rattle.tl_check.specs.StatesAlong.{course_along}
use Rattle.tl_eval.specs.Frames.{assignment_in}
use Rattle.tl_syntax.specs.TreeOfFormula.{tree_of_formula}
use Rattle.tl_check.proofs.state_labels.labels_in.Goals as goal

pub returns-in-Err-clause-labels : goal.returns-in-Err-clause-labels
returns-in-Err-clause-labels c =
    state-noted (course_along c.args.along.now) c.args.worlds.now c.args.span.from c.loop-i.i (assignment_in c.args.env.now)
    (assignment_in c.loop-i.env) (tree_of_formula c.args.f.now) c.index-worlds-i.result c.in-Err.note
    c.loop-i.auto.i (omega (arith, c.loop-i-test.true, c.requires.span.within)) c.index-worlds-i.is
    (ap assignment_in c.loop-i.invariant.frame) c.in-Err.ensures.note

pub loop-i-preserved : goal.loop-i-preserved
loop-i-preserved c =
    let p = course_along c.args.along.now in
    let e = assignment_in c.args.env.now in
    let f = tree_of_formula c.args.f.now in
    let ws = c.args.worlds.now in
    let t = λ (i : ℕ). true_ahead p e f (drop i ws) in
    let here = world-here ws c.loop-i.i c.index-worlds-i.result (omega (arith, c.loop-i-test.true, c.requires.span.within))
    c.index-worlds-i.is in
    let told = state-told p e (assignment_in c.loop-i.env) f c.index-worlds-i.result
    (drop (suc c.loop-i.i) ws) c.in-Ok.truth c.requires.state (ap assignment_in c.loop-i.invariant.frame) c.in-Ok.ensures.value in
    record {
      frame = c.in-Ok.ensures.frame ∙ c.loop-i.invariant.frame;
      so_far = labels-on t (test_from t c.args.span.from (c.args.span.to - c.args.span.from)) c.loop-i.labels c.push.new.self c.loop-i.i
          c.args.span.to c.in-Ok.truth c.loop-i-test.true (told ∙ sym (ap (true_ahead p e f) here)) c.in_ok-push-in-Ok.ensures.added
          c.loop-i.invariant.so_far;
    }

pub returns-clause-labels : goal.returns-clause-labels
returns-clause-labels c =
    let u = true_ahead (course_along c.args.along.now) (assignment_in c.args.env.now) (tree_of_formula c.args.f.now) in
    let t = λ (i : ℕ). u (drop i c.args.worlds.now) in
    labels-end t (test_from t c.args.span.from (c.args.span.to - c.args.span.from)) c.loop-i.labels c.loop-i.i c.args.span.to
    c.loop-i-test.false c.loop-i.invariant.so_far
    ∙ test_from-marks t u c.args.worlds.now c.args.span c.requires.span (λ i h. refl)
