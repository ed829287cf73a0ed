use Rattle.std.proofs.Common.{◌≡◌, ◌++◌, List, true, Result, Ok, Err, Some, IfErr, IsErrAnd, length, refl, sym, ap, ◌∙◌, subst, inl, arith}
use Rattle.std.proofs.Common.{length-append}
use Rattle.tl_action.specs.declared.check_fault.CheckFault.{CheckFault}
use Rattle.tl_action.specs.declared.check_fault.CheckFault.TheVariants as fault
use Rattle.tl_check.specs.Judged.{IsKept}
use Rattle.tl_check.specs.StatesAlong.{states_of}
use Rattle.tl_check.specs.Trails.{IsFollowed}
use Rattle.tl_check.specs.declared.following.Followed.{Followed}
use Rattle.tl_lasso.proofs.VerdictLaws.{valid-tells, valid-of}
use Rattle.tl_lasso.specs.Verdicts.{IsLoopCause}
use Rattle.tl_lasso.specs.declared.verdict.LoopVerdict.{LoopVerdict}
use Rattle.tl_lasso.specs.declared.verdict.LoopVerdict.TheVariants.{NotExecutable}
use Rattle.tl_syntax.specs.declared.action.Action.{Action}
use Rattle.tl_terms.specs.Acceptance.{states}
use Rattle.tl_terms.specs.Problem.{PlainProblem}
use Rattle.tl_terms.specs.ProblemMeaning.{plain_problem}
use Rattle.tl_lasso.proofs.check.check_loop.Goals as goal

-- a fault as both parts are followed
followed-cause : (p : PlainProblem) (stem cycle : List Action) (r : Result LoopVerdict CheckFault) (x : CheckFault) →
    IsErrAnd r (λ y. y ≡ x) → IsFollowed p true (stem ++ cycle) (Err x) → IfErr r (IsLoopCause p stem cycle)
followed-cause p stem cycle (Ok v) x same h = absurd same
followed-cause p stem cycle (Err y) x same h = subst (IsLoopCause p stem cycle) (sym same) (by x h)
  where
    by : (z : CheckFault) → IsFollowed p true (stem ++ cycle) (Err z) → IsLoopCause p stem cycle z
    by (fault.Range k note) k2 = inl k2
    by fault.NoMemory k2 = tt

-- the states of both parts
states-here : (p : PlainProblem) (plan both : List Action) → plan ≡ both → states p plan ≡ Some (states_of p plan) → states p both ≡
    Some (states_of p plan)
states-here p plan both q h = ap (states p) (sym q) ∙ h

pub verdict_of-requires-clause-short : goal.verdict_of-requires-clause-short
verdict_of-requires-clause-short c =
    let whole = c.as_slice-in-Ended.ensures ∙ c.in_ok-plan.ensures in
    omega (arith, ap length whole, length-append c.args.stem.now c.args.cycle.now, c.requires.few)

pub verdict_of-requires-clause-some : goal.verdict_of-requires-clause-some
verdict_of-requires-clause-some c =
    let whole = c.as_slice-in-Ended.ensures ∙ c.in_ok-plan.ensures in
    omega (arith, ap length whole, length-append c.args.stem.now c.args.cycle.now, c.requires.some)

pub verdict_of-requires-clause-kept : goal.verdict_of-requires-clause-kept
verdict_of-requires-clause-kept c =
    let p = plain_problem c.args.task.now.problem in
    subst (λ (acts : List Action). IsKept p acts c.in-Ended.trail) (c.as_slice.ensures ∙ sym c.as_slice-in-Ended.ensures)
    (subst (λ (x : Followed). IsFollowed p true c.as_slice.result.now (Ok x)) c.in-Ended.is c.in_ok-k.ensures)

pub returns-in-Stopped-clause-verdict : goal.returns-in-Stopped-clause-verdict
returns-in-Stopped-clause-verdict c =
    let p = plain_problem c.args.task.now.problem in
    let whole = c.as_slice.ensures ∙ c.in_ok-plan.ensures in
    subst (λ (x : Followed). IsFollowed p true (c.args.stem.now ++ c.args.cycle.now) (Ok x)) c.in-Stopped.is
    (subst (λ (acts : List Action). IsFollowed p true acts (Ok c.in_ok-k.field-0)) whole c.in_ok-k.ensures)

pub returns-in-Stopped-clause-valid : goal.returns-in-Stopped-clause-valid
returns-in-Stopped-clause-valid c =
    let p = plain_problem c.args.task.now.problem in
    let whole = c.as_slice.ensures ∙ c.in_ok-plan.ensures in
    valid-tells p c.args.stem.now c.args.cycle.now (NotExecutable c.in-Stopped.k)
    (subst (λ (x : Followed). IsFollowed p true (c.args.stem.now ++ c.args.cycle.now) (Ok x)) c.in-Stopped.is
    (subst (λ (acts : List Action). IsFollowed p true acts (Ok c.in_ok-k.field-0)) whole c.in_ok-k.ensures))

pub returns-clause-verdict : goal.returns-clause-verdict
returns-clause-verdict c =
    let p = plain_problem c.args.task.now.problem in
    let whole = c.as_slice-in-Ended.ensures ∙ c.in_ok-plan.ensures in
    let kept = subst (λ (acts : List Action). IsKept p acts c.in-Ended.trail) (c.as_slice.ensures ∙ sym c.as_slice-in-Ended.ensures)
    (subst (λ (x : Followed). IsFollowed p true c.as_slice.result.now (Ok x)) c.in-Ended.is c.in_ok-k.ensures) in
    c.verdict_of.ensures.verdict c.args.stem.now c.args.cycle.now refl
    (states-here p c.as_slice-in-Ended.result.now (c.args.stem.now ++ c.args.cycle.now) whole kept.0)

pub returns-clause-valid : goal.returns-clause-valid
returns-clause-valid c =
    let p = plain_problem c.args.task.now.problem in
    let whole = c.as_slice-in-Ended.ensures ∙ c.in_ok-plan.ensures in
    let kept = subst (λ (acts : List Action). IsKept p acts c.in-Ended.trail) (c.as_slice.ensures ∙ sym c.as_slice-in-Ended.ensures)
    (subst (λ (x : Followed). IsFollowed p true c.as_slice.result.now (Ok x)) c.in-Ended.is c.in_ok-k.ensures) in
    valid-of p c.args.stem.now c.args.cycle.now c.verdict_of.result (c.verdict_of.ensures.verdict c.args.stem.now c.args.cycle.now refl
    (states-here p c.as_slice-in-Ended.result.now (c.args.stem.now ++ c.args.cycle.now) whole kept.0))

pub returns-clause-cause : goal.returns-clause-cause
returns-clause-cause c =
    let p = plain_problem c.args.task.now.problem in
    let whole = c.as_slice-in-Ended.ensures ∙ c.in_ok-plan.ensures in
    let kept = subst (λ (acts : List Action). IsKept p acts c.in-Ended.trail) (c.as_slice.ensures ∙ sym c.as_slice-in-Ended.ensures)
    (subst (λ (x : Followed). IsFollowed p true c.as_slice.result.now (Ok x)) c.in-Ended.is c.in_ok-k.ensures) in
    c.verdict_of.ensures.cause c.args.stem.now c.args.cycle.now refl (states-here p c.as_slice-in-Ended.result.now
    (c.args.stem.now ++ c.args.cycle.now) whole kept.0)

pub returns-in_err-k-clause-cause : goal.returns-in_err-k-clause-cause
returns-in_err-k-clause-cause c =
    let p = plain_problem c.args.task.now.problem in
    let whole = c.as_slice.ensures ∙ c.in_ok-plan.ensures in
    followed-cause p c.args.stem.now c.args.cycle.now c.from_residual-in_err-k.result c.in_err-k.field-0.0
    c.from_residual-in_err-k.ensures.1 (subst (λ (acts : List Action). IsFollowed p true acts (Err c.in_err-k.field-0.0)) whole
    c.in_err-k.ensures)
