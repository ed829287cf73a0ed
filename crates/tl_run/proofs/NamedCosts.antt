-- A cheapest plan, and the path at whose end the search for one ends, name only what the problem has.
use Rattle.std.proofs.Common.{ℕ, List, ◌∷◌}
use Rattle.tl_cost.specs.CostTexts.{HasNamedPlan}
use Rattle.tl_cost.specs.Outcomes.{CostOutcomeIsNamed, IsCheapestFault}
use Rattle.tl_cost.specs.declared.outcome.CostOutcome.{CostOutcome}
use Rattle.tl_cost.specs.declared.outcome.CostOutcome.TheVariants as outcome
use Rattle.tl_search.specs.NamedAnswers.{FaultIsNamed}
use Rattle.tl_search.specs.declared.fault.SearchFault.{SearchFault}
use Rattle.tl_search.specs.declared.fault.SearchFault.TheVariants as fault
use Rattle.tl_terms.specs.LawsStep.{StepByItsConditions}
use Rattle.tl_terms.specs.ProblemMeaning.{plain_problem}
use Rattle.tl_world.specs.declared.task.Task.{Task}
use Rattle.tl_run.specs.Cheapest.{IsCostOutcome}
use Rattle.tl_run.specs.Searched.{HasNamedPath}
use Rattle.tl_run.proofs.NamedPlans.{named_both, states_take}

pub cost_plan_is_named : StepByItsConditions → (b : ℕ) (task : Task) (costs : List ℕ) (o : CostOutcome) →
    IsCostOutcome b (plain_problem task.problem) costs o → CostOutcomeIsNamed task o →
    HasNamedPlan task.problem.names task.problem.domain.operators o
cost_plan_is_named law b task costs (outcome.Plan plan cost) right named =
    let p = plain_problem task.problem in
    let accepted = right.accepted in
    named_both task.problem plan (states_take law p p.first plan (accepted.from ∷ accepted.after) accepted.executes) named
cost_plan_is_named law b task costs outcome.NoPlan right named = tt
cost_plan_is_named law b task costs outcome.Spent right named = tt

pub cost_path_is_named : StepByItsConditions → (b : ℕ) (task : Task) (costs : List ℕ) (f : SearchFault) →
    IsCheapestFault (plain_problem task.problem) costs b f → FaultIsNamed task f →
    HasNamedPath task.problem.names task.problem.domain.operators f
cost_path_is_named law b task costs (fault.Range path note) right named =
    let p = plain_problem task.problem in
    let cause = right.cause in
    named_both task.problem path (states_take law p p.first path (cause.from ∷ cause.after) cause.executes) named
cost_path_is_named law b task costs fault.NoMemory right named = tt
