use Rattle.std.proofs.Common.{◌+◌, length, refl, sym, ◌∙◌, subst}
use Rattle.tl_check.proofs.KeptLaws.{some-states, last-state, along-is, cause-passed}
use Rattle.tl_check.proofs.JudgeLaws.{misses, accepts, breaks, past}
use Rattle.tl_check.specs.Histories.{IsFactHistory}
use Rattle.tl_check.specs.Judged.{Obeys}
use Rattle.tl_check.specs.Rounds.{course_from}
use Rattle.tl_check.specs.StatesAlong.{states_of}
use Rattle.tl_check.specs.declared.along.Along.{Along}
use Rattle.tl_syntax.specs.Lists.{Each}
use Rattle.tl_terms.specs.ProblemMeaning.{plain_problem}
use Rattle.tl_check.proofs.checker.verdict_of.Goals as goal

pub returns-then-not-met-clause-verdict : goal.returns-then-not-met-clause-verdict
returns-then-not-met-clause-verdict c =
    let p = plain_problem c.args.task.now.problem in
    let plan = c.args.plan.now in
    let t = c.args.trail in
    misses p plan (states_of p plan) t.world (some-states p plan t c.requires.executes c.requires.trail)
    (last-state p plan t c.requires.executes c.requires.trail) c.requires.executes (sym c.met.ensures ∙ c.if-not-met.true)

pub obeys-requires : goal.obeys-requires
obeys-requires c =
    let plan = c.args.plan.now in
    let along : Along = record {
      alloc = c.args.alloc;
      task = c.args.task;
      plan = c.args.plan;
      count = length plan + 1;
      again =
          length plan;
      kept = c.as_slice.result;
      histories = c.as_slice-2.result;
    } in
    along-is (plain_problem c.args.task.now.problem) plan c.args.trail c.requires.executes c.requires.trail along refl refl refl
    c.requires.short c.as_slice.ensures.value
    (λ ws h. subst (Each (IsFactHistory ws)) (sym c.as_slice-2.ensures.value) (c.in_ok-histories.ensures ws h))

pub returns-then-branch-clause-verdict : goal.returns-then-branch-clause-verdict
returns-then-branch-clause-verdict c =
    let p = plain_problem c.args.task.now.problem in
    let plan = c.args.plan.now in
    let t = c.args.trail in
    accepts p plan (states_of p plan) t.world (some-states p plan t c.requires.executes c.requires.trail)
    (last-state p plan t c.requires.executes c.requires.trail) c.requires.executes (sym c.met.ensures ∙ c.if-not-met.false)
    c.in_ok-obeys.field-0 c.in_ok-obeys.ensures c.if-branch.true

pub returns-clause-verdict : goal.returns-clause-verdict
returns-clause-verdict c =
    let p = plain_problem c.args.task.now.problem in
    let plan = c.args.plan.now in
    let t = c.args.trail in
    breaks p plan (states_of p plan) t.world (some-states p plan t c.requires.executes c.requires.trail)
    (last-state p plan t c.requires.executes c.requires.trail) c.requires.executes (sym c.met.ensures ∙ c.if-not-met.false)
    c.in_ok-obeys.field-0 c.in_ok-obeys.ensures c.if-branch.false

pub returns-in_err-obeys-clause-cause : goal.returns-in_err-obeys-clause-cause
returns-in_err-obeys-clause-cause c =
    let p = plain_problem c.args.task.now.problem in
    let plan = c.args.plan.now in
    let t = c.args.trail in
    let along : Along = record {
      alloc = c.args.alloc;
      task = c.args.task;
      plan = c.args.plan;
      count = length plan + 1;
      again =
          length plan;
      kept = c.as_slice.result;
      histories = c.as_slice-2.result;
    } in
    cause-passed p plan t c.requires.executes c.requires.trail along (Obeys (course_from p (length plan) (states_of p plan))
    (states_of p plan)) refl c.as_slice.ensures.value
    (λ y h. past p plan (states_of p plan) t.world (some-states p plan t c.requires.executes c.requires.trail)
    (last-state p plan t c.requires.executes c.requires.trail) c.requires.executes (sym c.met.ensures ∙ c.if-not-met.false) y h)
    c.from_residual-in_err-obeys.result c.in_err-obeys.field-0.0 c.from_residual-in_err-obeys.ensures.1 c.in_err-obeys.ensures
