-- The cost of a plan.
use Rattle.std.specs.Prelude.{ℕ, ◌+◌, List, [], ◌∷◌, slice_get, unwrap_or}
use Rattle.tl_syntax.specs.declared.action.Action.{Action}

-- the cost of the action's operator, by a list that has one for each; an operator without one costs
-- 1
abbrev pub action_cost : List ℕ → Action → ℕ
action_cost costs a = unwrap_or (slice_get costs a.op) 1

-- the sum of the costs of its actions
abbrev pub plan_cost : List ℕ → List Action → ℕ
plan_cost costs [] = 0
plan_cost costs (a ∷ plan) = action_cost costs a + plan_cost costs plan
