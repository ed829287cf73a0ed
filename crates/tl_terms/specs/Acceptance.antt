-- The states of a plan, and the plans that are accepted.
use Rattle.std.specs.Prelude.{◌≡◌, List, [], ◌∷◌, Bool, false, not, ◌&&◌, Option, Some, None, IsTrue}
use Rattle.std.specs.List.{list_all}
use Rattle.std.specs.FinSet as set
use Rattle.std.specs.FinMap as dict
use Rattle.std.specs.Ordering.{is_eq}
use Rattle.tl_syntax.specs.declared.value.Value.{Value}
use Rattle.tl_syntax.specs.declared.action.Action.{Action}
use Rattle.tl_syntax.specs.Keys.{value_cmp}
use Rattle.tl_terms.specs.World.{World, has_fact, value_at}
use Rattle.tl_terms.specs.Run.{Run, Satisfies}
use Rattle.tl_terms.specs.Problem.{PlainProblem}
use Rattle.tl_terms.specs.Step.{step}

-- the world before the others, where they exist
abbrev pub then_states : World → Option (List World) → Option (List World)
then_states w None = None
then_states w (Some ws) = Some (w ∷ ws)

-- the states from a world on, where that world exists and the plan executes there
unfoldable pub states_from : PlainProblem → Option World → List Action → Option (List World)
states_from p None plan = None
states_from p (Some w) [] = Some (w ∷ [])
states_from p (Some w) (a ∷ plan) = then_states w (states_from p (step p w a) plan)

-- the first world and the world after each action, where the plan executes
abbrev pub states : PlainProblem → List Action → Option (List World)
states p plan = states_from p (Some p.first) plan

-- the value is there and is this one
abbrev pub is_value : Option Value → Value → Bool
is_value (Some v) u = is_eq (value_cmp v u)
is_value None u = false

-- every fact of the goal is in the world, every place of the goal has its value there, and no fact
-- to avoid is in the world
unfoldable pub meets_goal : World → World → World → Bool
meets_goal w goal avoid = list_all (has_fact w) (set.items goal.facts) &&
    (list_all (λ k. is_value (value_at w k.0) k.1) (dict.entries goal.places) && list_all (λ k. not (has_fact w k)) (set.items avoid.facts))

-- the last of a world and those after it
abbrev pub last_of : World → List World → World
last_of w [] = w
last_of w (v ∷ ws) = last_of v ws

-- all but that last one
abbrev pub all_but_last : World → List World → List World
all_but_last w [] = []
all_but_last w (v ∷ ws) = w ∷ all_but_last v ws

-- the states, the last of them repeated for ever
abbrev pub run_of : World → List World → Run
run_of w ws = record { stem = all_but_last w ws; first = last_of w ws; rest = [] }

-- the plan executes, the goal is met in its last state, and the control formula holds along its
-- states, the last of them repeated for ever (Bacchus and Kabanza 2000)
pub record IsAccepted (p : PlainProblem) (plan : List Action) : Type 0 where
  pub from : World
  pub after : List World
  pub executes : states p plan ≡ Some (from ∷ after)
  pub reaches : IsTrue (meets_goal (last_of from after) p.goal p.avoid)
  pub obeys : Satisfies p (run_of from after) 0 p.control
