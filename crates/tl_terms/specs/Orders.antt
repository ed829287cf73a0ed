-- The orders of actions and of plans.
use Rattle.std.specs.Prelude.{List}
use Rattle.std.specs.declared.cmp.Ordering.{Ordering}
use Rattle.std.specs.Ordering.{nat_cmp, on, then_cmp}
use Rattle.std.specs.Cmp.Lexicographic.{slice_cmp}
use Rattle.tl_syntax.specs.declared.action.Action.{Action}
use Rattle.tl_syntax.specs.Keys.{value_cmp}

-- by operator in the domain's order, and then by the arguments from left to right
abbrev pub action_cmp : Action → Action → Ordering
action_cmp = then_cmp (on (λ a. a.op) nat_cmp) (on (λ a. a.args) (slice_cmp value_cmp))

-- by the actions from the first on; a plan comes before every longer one that begins with it
abbrev pub plan_cmp : List Action → List Action → Ordering
plan_cmp = slice_cmp action_cmp
