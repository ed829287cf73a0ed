use Rattle.std.proofs.Common.{◌≡◌, sym, ◌∙◌, subst}
use Rattle.tl_world.specs.declared.task.Task.{Task}
use Rattle.tl_space.specs.Spaces.{task_of}
use Rattle.tl_search.specs.NamedAnswers.{OutcomeIsNamed, FaultIsNamed}
use Rattle.tl_terms.specs.ProblemMeaning.{plain_problem}
use Rattle.tl_run.specs.Plan.{IsOutcome}
use Rattle.tl_run.specs.Searched.{IsSearchFault}
use Rattle.tl_run.proofs.NamedPlans.{plan_is_named, path_is_named}
use Rattle.tl_run.proofs.commands.plan.space_reply.Goals as goal

pub outcome_reply-requires-clause-right : goal.outcome_reply-requires-clause-right
outcome_reply-requires-clause-right c =
    let o = c.in-Ok.report.outcome in
    let same : task_of c.args.space.now ≡ c.task.result.now = sym c.searched-answer.ensures.task ∙ sym c.task.ensures in
    subst (λ (t : Task). IsOutcome c.args.search (plain_problem t.problem) o) same c.in-Ok.ensures.outcome

pub outcome_reply-requires-clause-named : goal.outcome_reply-requires-clause-named
outcome_reply-requires-clause-named c =
    let task = c.task.result.now in
    let o = c.in-Ok.report.outcome in
    let same : task_of c.args.space.now ≡ task = sym c.searched-answer.ensures.task ∙ sym c.task.ensures in
    plan_is_named c.step_is_by_its_conditions.ensures c.args.search task o
    (subst (λ (t : Task). IsOutcome c.args.search (plain_problem t.problem) o) same c.in-Ok.ensures.outcome)
    (subst (λ (t : Task). OutcomeIsNamed t o) same c.in-Ok.ensures.named)

pub fault_reply-requires-clause-named : goal.fault_reply-requires-clause-named
fault_reply-requires-clause-named c =
    let task = c.task.result.now in
    let f = c.in-Err.fault in
    let same : task_of c.args.space.now ≡ task = sym c.searched-answer.ensures.task ∙ sym c.task.ensures in
    path_is_named c.step_is_by_its_conditions.ensures c.args.search task f
    (subst (λ (t : Task). IsSearchFault c.args.search (plain_problem t.problem) f) same c.in-Err.ensures.fault)
    (subst (λ (t : Task). FaultIsNamed t f) same c.in-Err.ensures.path_named)
