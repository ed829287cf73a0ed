-- The text of what a search answers.
use Rattle.std.specs.Prelude.{ℕ, List, ◌++◌, length, codes}
use Rattle.std.specs.Fmt.{decimal}
use Rattle.tl_syntax.specs.declared.action.Action.{Action}
use Rattle.tl_syntax.specs.declared.operator.Operator.{Operator}
use Rattle.tl_syntax.specs.Lists.{Each}
use Rattle.tl_line.specs.NamedActions.{ActionIsNamed}
use Rattle.tl_line.specs.WritableActions.{ArgumentsFit}
use Rattle.tl_search.specs.declared.outcome.Outcome.{Outcome}
use Rattle.tl_search.specs.declared.outcome.Outcome.TheVariants.{Plan, NoPlan, NoneWithin, Spent}
use Rattle.tl_line.specs.AnswerLines.{action_lines}
pub use Rattle.tl_line.specs.AnswerLines.{none_text, spent_text}

-- the line that says of how many actions a plan is
abbrev pub plan_line : ℕ → List ℕ
plan_line n = codes "; plan of " ++ (decimal n ++ codes " actions\n")

-- the lines of a plan: of how many actions it is, and then a line for each
abbrev pub plan_text : List (List ℕ) → List Operator → List Action → List ℕ
plan_text names operators plan = plan_line (length plan) ++ action_lines names operators plan

-- the line that says that there is no plan of at most n actions
abbrev pub none_within_text : ℕ → List ℕ
none_within_text n = codes "; none within " ++ (decimal n ++ codes "\n")

-- the lines of what a search for plans of at most n actions, which keeps at most b search nodes,
-- answers
abbrev pub outcome_text : List (List ℕ) → List Operator → ℕ → ℕ → Outcome → List ℕ
outcome_text names operators n b (Plan plan) = plan_text names operators plan
outcome_text names operators n b NoPlan = none_text
outcome_text names operators n b NoneWithin = none_within_text n
outcome_text names operators n b Spent = spent_text b

-- the actions of the plan, where there is one, are of these operators and name only these names
abbrev pub HasNamedPlan : List (List ℕ) → List Operator → Outcome → Type 0
HasNamedPlan names operators (Plan plan) = Each (ActionIsNamed names operators) plan
HasNamedPlan names operators NoPlan = Unit {0}
HasNamedPlan names operators NoneWithin = Unit {0}
HasNamedPlan names operators Spent = Unit {0}

-- the actions of the plan, where there is one, have integers of 64 bits
abbrev pub PlanFits : Outcome → Type 0
PlanFits (Plan plan) = Each ArgumentsFit plan
PlanFits NoPlan = Unit {0}
PlanFits NoneWithin = Unit {0}
PlanFits Spent = Unit {0}
