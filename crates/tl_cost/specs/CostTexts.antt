-- The text of what a search for a cheapest plan answers.
use Rattle.std.specs.Prelude.{ℕ, List, ◌++◌, length, codes}
use Rattle.std.specs.Fmt.{decimal}
use Rattle.tl_syntax.specs.declared.action.Action.{Action}
use Rattle.tl_syntax.specs.declared.operator.Operator.{Operator}
use Rattle.tl_syntax.specs.Lists.{Each}
pub use Rattle.tl_line.specs.AnswerLines.{action_lines as plan_lines, none_text, spent_text}
use Rattle.tl_line.specs.NamedActions.{ActionIsNamed}
use Rattle.tl_cost.specs.declared.outcome.CostOutcome.{CostOutcome}
use Rattle.tl_cost.specs.declared.outcome.CostOutcome.TheVariants as outcome

-- the line that says of how many actions a plan is, and what it costs
abbrev pub cheapest_line : ℕ → ℕ → List ℕ
cheapest_line n cost = codes "; cheapest plan of " ++ (decimal n ++ (codes " actions costs " ++ (decimal cost ++ codes "\n")))

-- the lines of a plan and its cost
abbrev pub cheapest_plan_text : List (List ℕ) → List Operator → List Action → ℕ → List ℕ
cheapest_plan_text names operators plan cost = cheapest_line (length plan) cost ++ plan_lines names operators plan

-- the lines of what a search that keeps at most b pairs answers
abbrev pub cost_text : List (List ℕ) → List Operator → ℕ → CostOutcome → List ℕ
cost_text names operators b (outcome.Plan plan cost) = cheapest_plan_text names operators plan cost
cost_text names operators b outcome.NoPlan = none_text
cost_text names operators b outcome.Spent = spent_text b

-- the actions of the plan, where there is one, are of these operators and name only these names
abbrev pub HasNamedPlan : List (List ℕ) → List Operator → CostOutcome → Type 0
HasNamedPlan names operators (outcome.Plan plan cost) = Each (ActionIsNamed names operators) plan
HasNamedPlan names operators outcome.NoPlan = Unit {0}
HasNamedPlan names operators outcome.Spent = Unit {0}
