use Rattle.std.proofs.Common.{◌-◌, ℕ, List, length, refl, sym, ap, ◌∙◌, subst, drop, arith}
use Rattle.tl_check.proofs.AtomLaws.{labels-end, world-here}
use Rattle.tl_check.proofs.LineLaws.{labels-on}
use Rattle.tl_check.proofs.SpanLaws.{test_from-marks}
use Rattle.tl_check.specs.Facts.{bound_ahead}
use Rattle.tl_check.specs.Lines.{test_from}
use Rattle.tl_check.specs.Spans.{IsWithin, marks_in}
use Rattle.tl_eval.specs.Frames.{assignment_in}
use Rattle.tl_terms.specs.ProblemMeaning.{plain_problem}
use Rattle.tl_terms.specs.World.{World}
use Rattle.tl_check.proofs.atoms.bound_read.Goals as goal

pub loop-i-preserved : goal.loop-i-preserved
loop-i-preserved c =
    let ws = c.args.worlds.now in
    let u = bound_ahead (plain_problem c.args.along.now.task.now.problem) (assignment_in c.args.env.now) c.args.bound.now in
    let t = λ (i : ℕ). u (drop i ws) in
    let here = world-here ws c.loop-i.i c.index-worlds-i.result (omega
    (arith, c.loop-i-test.true, c.requires.span.within, ap length c.requires.worlds)) c.index-worlds-i.is in
    labels-on t (test_from t c.args.span.from (c.args.span.to - c.args.span.from)) c.loop-i.labels c.push.new.self c.loop-i.i c.args.span.to
    c.bound_holds.result c.loop-i-test.true (c.bound_holds.ensures ∙ sym (ap u here)) c.in_ok-push.ensures.added c.loop-i.invariant

pub returns : goal.returns
returns c =
    let ws = c.args.worlds.now in
    let u = bound_ahead (plain_problem c.args.along.now.task.now.problem) (assignment_in c.args.env.now) c.args.bound.now in
    let t = λ (i : ℕ). u (drop i ws) in
    let within : IsWithin c.args.span (length ws) = subst (λ (vs : List World). IsWithin c.args.span (length vs))
    (sym c.requires.worlds) c.requires.span in
    labels-end t (test_from t c.args.span.from (c.args.span.to - c.args.span.from)) c.loop-i.labels c.loop-i.i c.args.span.to
    c.loop-i-test.false c.loop-i.invariant
    ∙ (test_from-marks t u ws c.args.span within (λ i h. refl) ∙ ap (λ (vs : List World). marks_in u vs c.args.span) c.requires.worlds)
