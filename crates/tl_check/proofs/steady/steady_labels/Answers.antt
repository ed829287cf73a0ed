use Rattle.std.proofs.Common.{◌≡◌, ◌-◌, ◌∙◌, ℕ, refl, sym, ap, suc, take, drop, arith}
use Rattle.tl_check.proofs.AtomLaws.{same-marks}
use Rattle.tl_check.proofs.StateLabelLaws.{state-noted, state-told}
use Rattle.tl_check.specs.Ahead.{true_ahead, marks}
use Rattle.tl_check.specs.StatesAlong.{course_along}
use Rattle.tl_eval.specs.Frames.{assignment_in}
use Rattle.tl_syntax.specs.TreeOfFormula.{tree_of_formula}
use Rattle.tl_check.proofs.steady.steady_labels.Goals as goal

pub returns-then-span-clause-labels : goal.returns-then-span-clause-labels
returns-then-span-clause-labels c =
    let t = true_ahead (course_along c.args.along.now) (assignment_in c.args.env.now) (tree_of_formula c.args.f.now) in
    c.new.ensures ∙ ap (λ (k : ℕ). take k (marks t (drop c.args.span.from c.args.worlds.now)))
    (let e : 0 ≡ c.args.span.to - c.args.span.from = omega arith in e)

pub returns-in_ok-labels-in-Ok-clause-labels : goal.returns-in_ok-labels-in-Ok-clause-labels
returns-in_ok-labels-in-Ok-clause-labels c =
    let p = course_along c.args.along.now in
    let e = assignment_in c.args.env.now in
    let f = tree_of_formula c.args.f.now in
    let ws = c.args.worlds.now in
    let w = c.index-worlds-first.result in
    let told = state-told p e e f w (drop (suc c.args.span.from) ws) c.in-Ok.truth c.requires.state refl c.in-Ok.ensures.value in
    c.in_ok-labels-in-Ok.ensures.same ∙ same-marks ws c.args.span (true_ahead p e f) c.in-Ok.truth c.requires.span
    (λ v vs. c.requires.steady p e v w vs (drop (suc c.args.span.from) ws) ∙ sym told)

pub returns-in-Err-clause-labels : goal.returns-in-Err-clause-labels
returns-in-Err-clause-labels c =
    state-noted (course_along c.args.along.now) c.args.worlds.now c.args.span.from c.args.span.from (assignment_in c.args.env.now)
    (assignment_in c.args.env.now) (tree_of_formula c.args.f.now) c.index-worlds-first.result c.in-Err.note
    (omega arith) (let room = c.requires.span.within in omega arith) c.index-worlds-first.is refl c.in-Err.ensures.note
