use Rattle.std.proofs.Common.{◌≡◌, ◌*◌, List, None, Some, refl, arith}
use Rattle.tl_check.specs.Verdicts.{IsVerdict}
use Rattle.tl_search.specs.declared.outcome.Outcome.{Outcome}
use Rattle.tl_search.specs.declared.outcome.Outcome.TheVariants as outcome
use Rattle.tl_syntax.specs.declared.action.Action.{Action}
use Rattle.tl_terms.specs.Problem.{PlainProblem}
use Rattle.tl_terms.specs.ProblemMeaning.{plain_problem}
use Rattle.tl_run.specs.declared.search.Mode.TheVariants.{Depth}
use Rattle.tl_run.specs.Sample.{IsJudged}
use Rattle.tl_run.proofs.OneOutcome.{plan_within}
use Rattle.tl_run.proofs.Replied.{of_operators, summary_replied}
use Rattle.tl_run.proofs.commands.sample.outcome_reply.Goals as goal

pub check-requires : goal.check-requires
check-requires c =
    let within = plan_within Depth (3 * c.args.balls) 20000 (plain_problem c.args.task.now.problem) c.in-Plan.plan
    (rw c.in-Plan.is at c.requires.right) in
    record {
      operators = rw c.as_slice.ensures (of_operators c.args.task.now.problem c.in-Plan.plan (rw c.in-Plan.is at c.requires.named));
      short = rw c.as_slice.ensures (omega (arith, within.short, c.requires.balls));
    }

pub returns-in-Ok : goal.returns-in-Ok
returns-in-Ok c =
    let o = c.args.outcome.now in
    let problem = c.args.task.now.problem in
    let v = c.in-Ok.verdict in
    let right : IsVerdict (plain_problem problem) c.in-Plan.plan v = rw c.as_slice.ensures at c.in-Ok.ensures.verdict in
    let judged : IsJudged (plain_problem problem) o (Some v) = rw c.in-Plan.is right in
    summary_replied c.args.balls problem c.args.kept o (Some v) c.summary_reply.result
    (record { ended = c.requires.right; keeps = c.requires.keeps; judged = judged }) c.summary_reply.ensures.status
    c.summary_reply.ensures.text

-- without a plan there is no verdict
unjudged : (p : PlainProblem) (o : Outcome) → ((plan : List Action) → o ≡ outcome.Plan plan → ⊥) → IsJudged p o None
unjudged p (outcome.Plan plan) h = absurd (h plan refl)
unjudged p outcome.NoPlan h = tt
unjudged p outcome.NoneWithin h = tt
unjudged p outcome.Spent h = tt

pub returns-in_default : goal.returns-in_default
returns-in_default c =
    let o = c.args.outcome.now in
    let problem = c.args.task.now.problem in
    summary_replied c.args.balls problem c.args.kept o None c.summary_reply-in_default.result
    (record { ended = c.requires.right; keeps = c.requires.keeps; judged = unjudged (plain_problem problem) o c.in_default.not-Plan })
    c.summary_reply-in_default.ensures.status c.summary_reply-in_default.ensures.text
