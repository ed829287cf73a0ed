-- The orders of values, keys, actions and plans are total.
use Rattle.std.specs.Prelude.{◌≡◌, List, ◌∷◌, ◌++◌}
use Rattle.std.specs.declared.cmp.Ordering.{Ordering}
use Rattle.std.specs.declared.cmp.Ordering.TheVariants.{Less, Equal}
use Rattle.std.specs.Cmp.{IsTotalOrder}
use Rattle.tl_syntax.specs.declared.action.Action.{Action}
use Rattle.tl_syntax.specs.Keys.{value_cmp, key_cmp}
use Rattle.tl_terms.specs.Orders.{action_cmp, plan_cmp}

-- a total order in which only the same things are equal
pub record OrdersTotally {A : Type 0} (R : A → A → Ordering) : Type 0 where
  pub total : IsTotalOrder R
  pub ties : (x y : A) → R x y ≡ Equal → x ≡ y

-- of values
abbrev pub ValueOrderIsTotal : Type 0
ValueOrderIsTotal = OrdersTotally value_cmp

-- of facts and places
abbrev pub KeyOrderIsTotal : Type 0
KeyOrderIsTotal = OrdersTotally key_cmp

-- of actions
abbrev pub ActionOrderIsTotal : Type 0
ActionOrderIsTotal = OrdersTotally action_cmp

-- of plans
abbrev pub PlanOrderIsTotal : Type 0
PlanOrderIsTotal = OrdersTotally plan_cmp

-- a plan comes before one that goes on after it
abbrev pub PrefixComesBefore : Type 0
PrefixComesBefore = (plan rest : List Action) (a : Action) → plan_cmp plan (plan ++ a ∷ rest) ≡ Less
