use Rattle.std.proofs.Common.{◌∙◌, sym, ap}
use Rattle.std.proofs.lemmas.Result.{err_from_is_err_and}
use Rattle.tl_terms.specs.ProblemMeaning.{plain_problem}
use Rattle.tl_explain.specs.Explain.{explain_text, progressed_in}
use Rattle.tl_explain.specs.Explanations.{formula_in}
use Rattle.tl_explain.proofs.Failing.{first-fault, follow-fault}
use Rattle.tl_explain.proofs.Following.{all-end, all-stop, first-left, followed, lines-left, stopped}
use Rattle.tl_explain.proofs.Reaching.{reached-first, reached-on}
use Rattle.tl_explain.proofs.explainer.explain_states.Goals as goal

pub returns-in_err-arrive-clause-cause : goal.returns-in_err-arrive-clause-cause
returns-in_err-arrive-clause-cause g c =
    let x = err_from_is_err_and c.from_residual.result c.from_residual.ensures.1 in
    let start = c.requires.start in
    let old = c.args.explanation.now in
    rw (x.1, x.2) (first-fault c.args.task.now.problem c.args.plan.now old.world
    (formula_in old) _ start.world start.formula c.in_err-arrive.ensures.cause)

pub loop-k-init : goal.loop-k-init
loop-k-init g c =
    let p = c.args.task.now.problem in
    let start = c.requires.start in
    let old = c.args.explanation.now in
    let new = c.arrive.new.self in
    let h = c.in_ok-arrive.ensures.arrives in
    record {
      fit = h.fit;
      reached = reached-first (plain_problem p) c.args.plan.now new.world (formula_in new) (h.world ∙ start.world)
          (h.formula ∙ (λ i. progressed_in p (start.world i) (start.formula i)));
      so_far = first-left p c.args.plan.now new.world (formula_in old) (formula_in new) old.text new.text
          (h.world ∙ start.world) start.formula start.text (h.formula ∙ ap (λ w. progressed_in p w (formula_in old)) (sym h.world)) h.text;
    }

pub returns-in_err-follow-clause-cause : goal.returns-in_err-follow-clause-cause
returns-in_err-follow-clause-cause g c =
    let x = err_from_is_err_and c.from_residual-in_err-follow.result c.from_residual-in_err-follow.ensures.1 in
    let old = c.loop-k.explanation in
    rw (x.1, x.2) (follow-fault c.args.task.now.problem c.args.plan.now c.loop-k.k old c.index-plan-k.result _ c.loop-k.invariant.reached
    c.loop-k-test.true c.index-plan-k.is c.in_err-follow.ensures)

pub returns-then-not-branch-clause-text : goal.returns-then-not-branch-clause-text
returns-then-not-branch-clause-text g c =
    let p = c.args.task.now.problem in
    let old = c.loop-k.explanation in
    let h = stopped p c.loop-k.k c.index-plan-k.result old c.follow.new.self c.in_ok-follow.field-0 c.if-not-branch.true
    c.in_ok-follow.ensures in
    all-stop p c.args.plan.now c.loop-k.k old.world (formula_in old) old.text
    (explain_text p c.args.plan.now) c.loop-k.invariant.so_far c.index-plan-k.result c.loop-k-test.true c.index-plan-k.is
    c.follow.new.self.text c.stop.new.self.text h.stuck h.text c.in_ok-stop.ensures

pub loop-k-preserved : goal.loop-k-preserved
loop-k-preserved g c =
    let p = c.args.task.now.problem in
    let plan = c.args.plan.now in
    let old = c.loop-k.explanation in
    let new = c.follow.new.self in
    let h = followed p c.loop-k.k c.index-plan-k.result old new c.in_ok-follow.field-0 c.if-not-branch.false c.in_ok-follow.ensures in
    record {
      fit = h.fit;
      reached = reached-on (plain_problem p) plan c.loop-k.k old.world
          (formula_in old) c.loop-k.invariant.reached c.index-plan-k.result c.loop-k-test.true c.index-plan-k.is new.world
          (formula_in new) h.steps h.formula;
      so_far = lines-left p plan c.loop-k.k old.world (formula_in old) old.text
          (explain_text p plan) c.loop-k.invariant.so_far c.index-plan-k.result c.loop-k-test.true c.index-plan-k.is new.text new.world
          (formula_in new) h.steps h.formula h.text;
    }

pub returns-clause-text : goal.returns-clause-text
returns-clause-text g c =
    let p = c.args.task.now.problem in
    let old = c.loop-k.explanation in
    all-end p c.args.plan.now c.loop-k.k old.world (formula_in old) old.text
    (explain_text p c.args.plan.now) c.loop-k.invariant.so_far c.end.new.self.text c.loop-k-test.false c.in_ok-end.ensures
