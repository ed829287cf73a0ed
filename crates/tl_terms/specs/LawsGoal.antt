-- The goal test in the words of membership.
use Rattle.std.specs.Prelude.{◌≡◌, ◌↔◌, Some, IsTrue}
use Rattle.tl_syntax.specs.declared.value.Value.{Value}
use Rattle.tl_syntax.specs.Keys.{Key}
use Rattle.tl_terms.specs.World.{World, has_fact, value_at}
use Rattle.tl_terms.specs.Acceptance.{meets_goal}

-- each fact of the goal is in the world, each place of the goal has its value there, and no fact to
-- avoid is there
pub record MeetsGoal (w goal avoid : World) : Type 0 where
  pub facts : (k : Key) → IsTrue (has_fact goal k) → IsTrue (has_fact w k)
  pub places : (k : Key) (v : Value) → value_at goal k ≡ Some v → value_at w k ≡ Some v
  pub avoided : (k : Key) → IsTrue (has_fact avoid k) → IsTrue (has_fact w k) → ⊥

-- the goal test says just that
abbrev pub GoalTestByMembership : Type 0
GoalTestByMembership = (w goal avoid : World) → IsTrue (meets_goal w goal avoid) ↔ MeetsGoal w goal avoid
