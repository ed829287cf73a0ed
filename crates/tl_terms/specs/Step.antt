-- The step that an action makes from a world to the next (ADL, Pednault 1989).
use Rattle.std.specs.Prelude.{ℕ, List, [], ◌∷◌, ◌++◌, flat_map, length, slice_get, Bool, true, false, cond, ◌&&◌, ◌==◌, Option, Some, None}
use Rattle.std.specs.List.{list_all}
use Rattle.std.specs.FinSet as set
use Rattle.std.specs.FinMap as dict
use Rattle.tl_syntax.specs.declared.value.Value.{Value}
use Rattle.tl_syntax.specs.declared.action.Action.{Action}
use Rattle.tl_terms.specs.Problem.{PlainOperator, PlainProblem}
use Rattle.tl_terms.specs.Situation.{Situation}
use Rattle.tl_syntax.specs.Effects.{EffectTree, EffectTrees, add, del, assign, when, each, no_effect, more_effects}
use Rattle.tl_syntax.specs.Keys.{Key, key_cmp, no_clash}
use Rattle.tl_terms.specs.World.{World}
use Rattle.tl_syntax.specs.Assignment.{Assignment, no_values, bind}
use Rattle.tl_terms.specs.Terms.{term_value, term_values}
use Rattle.tl_terms.specs.Bounds.{bound_true, tuples}
use Rattle.tl_terms.specs.Truth.{state_true}
use Rattle.tl_terms.specs.Definitions.{situation_of}

-- one instance of an effect, with the meanings of its terms
pub data EffectInstance : Type 0 where
  adds : ℕ → Option (List Value) → EffectInstance
  dels : ℕ → Option (List Value) → EffectInstance
  sets : ℕ → Option (List Value) → Option Value → EffectInstance

-- the instances of an effect; all its conditions, bounds and terms are read in one situation
unfoldable mutual
  pub effect_instances : Situation → Assignment → EffectTree → List EffectInstance
  effect_instances s e (add p ts) = adds p (term_values s.world e ts) ∷ []
  effect_instances s e (del p ts) = dels p (term_values s.world e ts) ∷ []
  effect_instances s e (assign f ts t) = sets f (term_values s.world e ts) (term_value s.world e t) ∷ []
  effect_instances s e (when f es) = cond (state_true s e f) (all_instances s e es) []
  effect_instances s e (each vs b es) = flat_map (λ t. all_instances s (bind vs t e) es) (tuples s e vs b)

  pub all_instances : Situation → Assignment → EffectTrees → List EffectInstance
  all_instances s e no_effect = []
  all_instances s e (more_effects x xs) = effect_instances s e x ++ all_instances s e xs

-- all arguments, and the value that is set, are defined
abbrev pub is_defined : EffectInstance → Bool
is_defined (adds p (Some vs)) = true
is_defined (dels p (Some vs)) = true
is_defined (sets f (Some vs) (Some v)) = true
is_defined _ = false

-- the fact that an instance adds
abbrev pub added : EffectInstance → List Key
added (adds p (Some vs)) = (p, vs) ∷ []
added _ = []

-- the fact that an instance deletes
abbrev pub deleted : EffectInstance → List Key
deleted (dels p (Some vs)) = (p, vs) ∷ []
deleted _ = []

-- the place that an instance sets, with its value
abbrev pub given : EffectInstance → List (Key × Value)
given (sets f (Some vs) (Some v)) = ((f, vs), v) ∷ []
given _ = []

-- the set without these
abbrev pub without_all : set.FinSet key_cmp → List Key → set.FinSet key_cmp
without_all s [] = s
without_all s (k ∷ ks) = set.remove (without_all s ks) k

-- the set with these
abbrev pub with_all : set.FinSet key_cmp → List Key → set.FinSet key_cmp
with_all s [] = s
with_all s (k ∷ ks) = set.insert (with_all s ks) k

-- the map with these values
abbrev pub overwritten : dict.FinMap key_cmp Value → List (Key × Value) → dict.FinMap key_cmp Value
overwritten m [] = m
overwritten m (p ∷ ps) = dict.insert (overwritten m ps) p.0 p.1

-- the facts without the deleted ones and with the added ones, so that a fact which is both is
-- there; the places overwritten by the set ones
unfoldable pub changed : World → List EffectInstance → World
changed w cs = record {
  facts = with_all (without_all w.facts (flat_map deleted cs)) (flat_map added cs);
  places = overwritten w.places (flat_map given cs);
}

-- the operator is given these arguments in w: its bounds, its precondition, and then its effects
unfoldable pub applied : PlainProblem → World → PlainOperator → List Value → Option World
applied p w o vs =
    let s = situation_of p w in
    let e = bind o.params vs no_values in
    let cs = all_instances s e o.effects in
    cond ((length vs == length o.params) && (list_all (bound_true s e) o.bounds &&
    (state_true s e o.pre && (list_all is_defined cs && no_clash (flat_map given cs)))))
    (Some (changed w cs))
    None

-- the operator is applied, where it exists
abbrev pub applied_if : PlainProblem → World → List Value → Option PlainOperator → Option World
applied_if p w vs None = None
applied_if p w vs (Some o) = applied p w o vs

-- the world after the action, where it is executable in w
unfoldable pub step : PlainProblem → World → Action → Option World
step p w a = applied_if p w a.args (slice_get p.operators a.op)
