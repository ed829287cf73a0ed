-- What the command `cheapest` promises: the outcomes that are right of its search, the operations
-- at which it ends, and what its lines say.
use Rattle.std.specs.Prelude.{◌≡◌, ℕ, ◌+◌, List, length}
use Rattle.tl_cost.specs.CostTexts.{cheapest_plan_text}
use Rattle.tl_cost.specs.LeastCosts.{AreNearPairs, IsCheapestCause, IsCheapestPlan}
use Rattle.tl_cost.specs.declared.outcome.CostOutcome.{CostOutcome}
use Rattle.tl_cost.specs.declared.outcome.CostOutcome.TheVariants as outcome
use Rattle.tl_eval.specs.Notes.{operation_of}
use Rattle.tl_eval.specs.declared.range.RangeNote.{RangeNote}
use Rattle.tl_search.specs.Plans.{HasNoPlan}
use Rattle.tl_syntax.specs.declared.action.Action.{Action}
use Rattle.tl_syntax.specs.declared.problem.Problem.{Problem}
use Rattle.tl_terms.specs.Pairs.{Pair}
use Rattle.tl_terms.specs.Problem.{PlainProblem}
use Rattle.tl_terms.specs.ProblemMeaning.{plain_problem}
use Rattle.tl_run.specs.declared.status.Status.{Status}
use Rattle.tl_run.specs.declared.status.Status.TheVariants.{Yes, No, Spent}

-- so many different search nodes, each of them near: the first one, or one action after a search
-- node that costs no more than any accepted plan
pub record AreTooManyNear (p : PlainProblem) (costs : List ℕ) (b : ℕ) (nodes : List Pair) : Type 0 where
  pub many : length nodes ≡ b + 1
  pub near : AreNearPairs p costs nodes

-- the outcome is right of a search that keeps at most b search nodes: a cheapest plan with its
-- cost; that no plan of any length is accepted; or that b + 1 search nodes are near
abbrev pub IsCostOutcome : ℕ → PlainProblem → List ℕ → CostOutcome → Type 0
IsCostOutcome b p costs (outcome.Plan plan cost) = IsCheapestPlan p costs plan cost
IsCostOutcome b p costs outcome.NoPlan = HasNoPlan p
IsCostOutcome b p costs outcome.Spent = (nodes : List Pair) × AreTooManyNear p costs b nodes

-- the path executes and has at most b actions; it is empty, or without its last action it is open
-- and costs no more than any accepted plan; and in its last state the operation is looked at and is
-- past range
abbrev pub CheapestEndsPastRange : ℕ → PlainProblem → List ℕ → List Action → RangeNote → Type 0
CheapestEndsPastRange b p costs path note = IsCheapestCause p costs b path (operation_of note)

-- the status with an outcome
abbrev pub cost_status : CostOutcome → Status
cost_status (outcome.Plan plan cost) = Yes
cost_status outcome.NoPlan = No
cost_status outcome.Spent = Spent

-- the lines are those of a plan and its cost: the plan is accepted and costs this, no accepted plan
-- costs less, and none of this cost has fewer actions
pub record PrintsCheapestPlan (text : List ℕ) (problem : Problem) (costs : List ℕ) : Type 0 where
  pub plan : List Action
  pub cost : ℕ
  pub lines : text ≡ cheapest_plan_text problem.names problem.domain.operators plan cost
  pub cheapest : IsCheapestPlan (plain_problem problem) costs plan cost
