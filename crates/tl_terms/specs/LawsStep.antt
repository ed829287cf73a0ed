-- A step in the words of membership.
use Rattle.std.specs.Prelude.{◌≡◌, ◌↔◌, ◌⊎◌, List, flat_map, length, slice_get, Some, IsTrue}
use Rattle.tl_syntax.specs.declared.value.Value.{Value}
use Rattle.tl_syntax.specs.declared.action.Action.{Action}
use Rattle.tl_syntax.specs.Lists.{Each, Among}
use Rattle.tl_terms.specs.Problem.{PlainOperator, PlainProblem}
use Rattle.tl_syntax.specs.Keys.{Key, no_clash}
use Rattle.tl_terms.specs.World.{World, has_fact, value_at}
use Rattle.tl_syntax.specs.Assignment.{Assignment, no_values, bind}
use Rattle.tl_terms.specs.Bounds.{bound_true}
use Rattle.tl_terms.specs.Truth.{state_true}
use Rattle.tl_terms.specs.Definitions.{situation_of}
use Rattle.tl_terms.specs.Step.{EffectInstance, all_instances, is_defined, added, deleted, given, changed, step}

-- the instances of effects lead from w to v: each is defined, no place is set to two values, each
-- fact is there that is added, or was there and is not deleted, each place that is set has its
-- value, and every other place is as it was
pub record IsChange (w : World) (cs : List EffectInstance) (v : World) : Type 0 where
  pub all_defined : Each (λ c. IsTrue (is_defined c)) cs
  pub one_value : (k : Key) (a b : Value) → Among (k, a) (flat_map given cs) → Among (k, b) (flat_map given cs) → a ≡ b
  pub facts : (k : Key) → IsTrue (has_fact v k) ↔ (Among k (flat_map added cs) ⊎
      ((Among k (flat_map deleted cs) → ⊥) × IsTrue (has_fact w k)))
  pub set_places : (k : Key) (a : Value) → Among (k, a) (flat_map given cs) → value_at v k ≡ Some a
  pub other_places : (k : Key) → ((a : Value) → Among (k, a) (flat_map given cs) → ⊥) → value_at v k ≡ value_at w k

-- the values of an action's parameters
abbrev pub arguments_of : PlainOperator → Action → Assignment
arguments_of o a = bind o.params a.args no_values

-- the action is executable in w and leads to v: its operator exists, has as many parameters as it
-- has arguments, its bounds and its precondition are true in w, and its effects lead to v
pub record IsStep (p : PlainProblem) (w : World) (a : Action) (v : World) : Type 0 where
  pub operator : PlainOperator
  pub exists : slice_get p.operators a.op ≡ Some operator
  pub arity : length a.args ≡ length operator.params
  pub bounds : Each (λ b. IsTrue (bound_true (situation_of p w) (arguments_of operator a) b)) operator.bounds
  pub precondition : IsTrue (state_true (situation_of p w) (arguments_of operator a) operator.pre)
  pub effects : IsChange w (all_instances (situation_of p w) (arguments_of operator a) operator.effects) v

-- what a step leaves, fact by fact and place by place
abbrev pub StepByItsConditions : Type 0
StepByItsConditions = (p : PlainProblem) (w : World) (a : Action) (v : World) → (step p w a ≡ Some v) ↔ IsStep p w a v

-- where none clash, the next world depends on the set of instances alone
abbrev pub OrderOfInstances : Type 0
OrderOfInstances = (w : World) (cs ds : List EffectInstance) → IsTrue (no_clash (flat_map given cs)) →
    ((c : EffectInstance) → Among c cs ↔ Among c ds) → changed w cs ≡ changed w ds
