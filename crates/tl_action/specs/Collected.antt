-- The changes that the instances of effects make.
use Rattle.std.specs.Prelude.{◌≡◌, ◌⊎◌, ℕ, [], ◌∷◌, List, ◌++◌, flat_map, map, Bool, true, false, Option, Some, None, Result, Ok, Err}
use Rattle.std.specs.List.{list_all}
use Rattle.tl_action.specs.declared.changes.Changes.{Changes}
use Rattle.tl_eval.specs.declared.fault.EvalFault.{EvalFault}
use Rattle.tl_eval.specs.Faults.{IsCausedBy}
use Rattle.tl_syntax.specs.declared.fact.Fact.{Fact}
use Rattle.tl_syntax.specs.declared.place_value.PlaceValue.{PlaceValue}
use Rattle.tl_syntax.specs.declared.value.Value.{Value}
use Rattle.tl_syntax.specs.declared.variable.Var.{Var}
use Rattle.tl_syntax.specs.Assignment.{Assignment, bind}
use Rattle.tl_syntax.specs.Effects.{EffectTrees}
use Rattle.tl_syntax.specs.Keys.{fact_key, place_entry}
use Rattle.tl_terms.specs.Definitions.{situation_of}
use Rattle.tl_terms.specs.Looked.{looked_in_effects, looks_of}
use Rattle.tl_terms.specs.Operations.{Operation}
use Rattle.tl_terms.specs.Problem.{PlainProblem}
use Rattle.tl_terms.specs.Step.{EffectInstance, all_instances, is_defined, added, deleted, given}
use Rattle.tl_terms.specs.World.{World}

-- no change
abbrev pub no_changes : Changes
no_changes = record { dels = []; adds = []; sets = [] }

-- all instances are defined, and the changes after are those before and then theirs
pub record HasMore (cs : List EffectInstance) (before after : Changes) : Type 0 where
  pub defined : list_all is_defined cs ≡ true
  pub dels : map fact_key after.dels ≡ map fact_key before.dels ++ flat_map deleted cs
  pub adds : map fact_key after.adds ≡ map fact_key before.adds ++ flat_map added cs
  pub sets : map place_entry after.sets ≡ map place_entry before.sets ++ flat_map given cs

-- true where all instances are defined, whose changes are then there; false where some is not; or a
-- fault with its cause
abbrev pub Collects : List EffectInstance → List Operation → Changes → Changes → Result Bool EvalFault → Type 0
Collects cs looked before after (Ok true) = HasMore cs before after
Collects cs looked before after (Ok false) = list_all is_defined cs ≡ false
Collects cs looked before after (Err fault) = IsCausedBy looked fault

-- and so for the instances of effects below variables, for each of some tuples of their values
abbrev pub CollectsEach : PlainProblem → World → Assignment → List Var → EffectTrees → List (List Value) → Changes → Changes →
    Result Bool EvalFault → Type 0
CollectsEach p w e ss xs ts before after r =
    let s = situation_of p w in
    let looked = flat_map (λ t. looked_in_effects (looks_of p w) s (bind ss t e) xs) ts in
    Collects (flat_map (λ t. all_instances s (bind ss t e) xs) ts) looked before after r

-- true where the arguments are defined, and the fact is then there; false where they are not; or a
-- fault with its cause
abbrev pub GivesFact : ℕ → Option (List Value) → List Operation → List Fact → List Fact → Result Bool EvalFault → Type 0
GivesFact p args looked before after (Ok true) = (vs : List Value) × (args ≡ Some vs) ×
    (after ≡ before ++ record { pred = p; args = vs } ∷ [])
GivesFact p args looked before after (Ok false) = args ≡ None
GivesFact p args looked before after (Err fault) = IsCausedBy looked fault

-- and so for a place, whose arguments are evaluated first, with its value
abbrev pub GivesPlace : ℕ → Option (List Value) → Option Value → List Operation → List Operation → List PlaceValue → List PlaceValue →
    Result Bool EvalFault → Type 0
GivesPlace f args value looked_args looked_value before after (Ok true) = (vs : List Value) × (v : Value) × (args ≡ Some vs) ×
    (value ≡ Some v) × (after ≡ before ++ record { fun = f; args = vs; value = v } ∷ [])
GivesPlace f args value looked_args looked_value before after (Ok false) = (args ≡ None) ⊎ (value ≡ None)
GivesPlace f args value looked_args looked_value before after (Err fault) = IsCausedBy (looked_args ++ looked_value) fault
