use Rattle.std.proofs.Common.{◌≡◌, sym, ◌∙◌, subst}
use Rattle.tl_cost.specs.Outcomes.{CostOutcomeIsNamed, IsCheapestFault}
use Rattle.tl_search.specs.NamedAnswers.{FaultIsNamed}
use Rattle.tl_space.specs.Spaces.{task_of}
use Rattle.tl_terms.specs.ProblemMeaning.{plain_problem}
use Rattle.tl_world.specs.declared.task.Task.{Task}
use Rattle.tl_run.specs.Cheapest.{IsCostOutcome}
use Rattle.tl_run.proofs.NamedCosts.{cost_path_is_named, cost_plan_is_named}
use Rattle.tl_run.proofs.commands.cheapest.space_reply.Goals as goal

pub outcome_reply-requires-clause-right : goal.outcome_reply-requires-clause-right
outcome_reply-requires-clause-right c =
    let same : task_of c.args.space.now ≡ c.task.result.now = sym c.searched-answer.ensures.task ∙ sym c.task.ensures in
    subst (λ (t : Task). IsCostOutcome c.args.nodes (plain_problem t.problem) c.args.costs.now c.in-Ok.outcome) same c.in-Ok.ensures.outcome

pub outcome_reply-requires-clause-named : goal.outcome_reply-requires-clause-named
outcome_reply-requires-clause-named c =
    let task = c.task.result.now in
    let o = c.in-Ok.outcome in
    let same : task_of c.args.space.now ≡ task = sym c.searched-answer.ensures.task ∙ sym c.task.ensures in
    cost_plan_is_named c.step_is_by_its_conditions.ensures c.args.nodes task c.args.costs.now o
    (subst (λ (t : Task). IsCostOutcome c.args.nodes (plain_problem t.problem) c.args.costs.now o) same c.in-Ok.ensures.outcome)
    (subst (λ (t : Task). CostOutcomeIsNamed t o) same c.in-Ok.ensures.named)

pub fault_reply-requires-clause-cause : goal.fault_reply-requires-clause-cause
fault_reply-requires-clause-cause c =
    let same : task_of c.args.space.now ≡ c.task.result.now = sym c.searched-answer.ensures.task ∙ sym c.task.ensures in
    subst (λ (t : Task). IsCheapestFault (plain_problem t.problem) c.args.costs.now c.args.nodes c.in-Err.fault) same c.in-Err.ensures.fault

pub fault_reply-requires-clause-named : goal.fault_reply-requires-clause-named
fault_reply-requires-clause-named c =
    let task = c.task.result.now in
    let f = c.in-Err.fault in
    let same : task_of c.args.space.now ≡ task = sym c.searched-answer.ensures.task ∙ sym c.task.ensures in
    cost_path_is_named c.step_is_by_its_conditions.ensures c.args.nodes task c.args.costs.now f
    (subst (λ (t : Task). IsCheapestFault (plain_problem t.problem) c.args.costs.now c.args.nodes f) same c.in-Err.ensures.fault)
    (subst (λ (t : Task). FaultIsNamed t f) same c.in-Err.ensures.path_named)
