-- What a domain and a problem keep, so that whoever has one need not test it again.
use Rattle.std.specs.Prelude.{◌≡◌, ◌<◌, ◌≤◌, ◌+◌, ℕ, List, [], length, slice_get, Some, sum_by, IsTrue}
use Rattle.std.specs.List.{list_any}
use Rattle.tl_syntax.specs.declared.declared.Declared.{Declared}
use Rattle.tl_syntax.specs.declared.definition.Definition.{Definition}
use Rattle.tl_syntax.specs.declared.domain.Domain.{Domain}
use Rattle.tl_syntax.specs.declared.fact.Fact.{Fact}
use Rattle.tl_syntax.specs.declared.operator.Operator.{Operator}
use Rattle.tl_syntax.specs.declared.place_value.PlaceValue.{PlaceValue}
use Rattle.tl_syntax.specs.declared.variable.Var.{Var}
use Rattle.tl_syntax.specs.BoundVariables.{stands_in}
use Rattle.tl_syntax.specs.Fits.{BoundFits, Fits, EffectsFit}
use Rattle.tl_syntax.specs.FreeVariables.{slots_of, bound_slots, free_slots, effects_slots, InScope}
use Rattle.tl_syntax.specs.Lists.{Each}
use Rattle.tl_syntax.specs.Named.{ValueIsNamed, VariableIsNamed, BoundIsNamed, IsNamed, EffectsAreNamed}
use Rattle.tl_syntax.specs.Settled.{AreTheirPlaces}
use Rattle.tl_syntax.specs.Signature.{Signature, signature_of, with_definitions_below, Takes}
use Rattle.tl_syntax.specs.StateFormulas.{IsState, EffectsAreState}
use Rattle.tl_syntax.specs.TreeOfEffect.{tree_of_effects}
use Rattle.tl_syntax.specs.TreeOfFormula.{tree_of_formula}

-- a declaration: its name is below n, and it takes at most 8 arguments
pub record DeclarationKeeps (n : ℕ) (d : Declared) : Type 0 where
  pub named : d.name < n
  pub few : d.arity ≤ 8

-- parameters: named, at most `most`, and their slots are 0, 1 and on
pub record ParametersKeep (n most : ℕ) (ss : List Var) : Type 0 where
  pub named : Each (VariableIsNamed n) ss
  pub few : length ss ≤ most
  pub counted : AreTheirPlaces (slots_of ss)

-- the i-th definition: its body speaks of its parameters, has no temporal word, and names no
-- definition after its own
pub record DefinitionKeeps (g : Signature) (n i : ℕ) (d : Definition) : Type 0 where
  pub name : d.name < n
  pub params : ParametersKeep n 8 d.params
  pub state : IsState (tree_of_formula d.body)
  pub scope : InScope (slots_of d.params) (free_slots (tree_of_formula d.body))
  pub fits : Fits (with_definitions_below (i + 1) g) (slots_of d.params) (tree_of_formula d.body)
  pub named : IsNamed n (tree_of_formula d.body)
  pub levels : 1 ≤ d.levels

-- an operator: bounds, precondition and effects speak of its parameters, each of which stands in
-- some bound
pub record OperatorKeeps (g : Signature) (n : ℕ) (o : Operator) : Type 0 where
  pub name : o.name < n
  pub params : ParametersKeep n 16 o.params
  pub bounded : Each (λ s. IsTrue (list_any (stands_in s) o.bounds)) o.params
  pub bounds_scope : Each (λ b. InScope (slots_of o.params) (bound_slots b)) o.bounds
  pub bounds_fit : Each (BoundFits g) o.bounds
  pub bounds_named : Each (BoundIsNamed n) o.bounds
  pub state : IsState (tree_of_formula o.pre)
  pub scope : InScope (slots_of o.params) (free_slots (tree_of_formula o.pre))
  pub fits : Fits g (slots_of o.params) (tree_of_formula o.pre)
  pub named : IsNamed n (tree_of_formula o.pre)
  pub effects_state : EffectsAreState (tree_of_effects o.effects)
  pub effects_scope : InScope (slots_of o.params) (effects_slots (tree_of_effects o.effects))
  pub effects_fit : EffectsFit g (slots_of o.params) (tree_of_effects o.effects)
  pub effects_named : EffectsAreNamed n (tree_of_effects o.effects)

-- a domain, with a table of n names
pub record DomainKeeps (n : ℕ) (d : Domain) : Type 0 where
  pub name : d.name < n
  pub predicates : Each (DeclarationKeeps n) d.predicates
  pub functions : Each (DeclarationKeeps n) d.functions
  pub few_predicates : length d.predicates ≤ 256
  pub few_functions : length d.functions ≤ 256
  pub definitions : (i : ℕ) (x : Definition) → slice_get d.definitions i ≡ Some x → DefinitionKeeps (signature_of d) n i x
  pub few_definitions : length d.definitions ≤ 64
  pub few_levels : sum_by (λ x. x.levels) d.definitions ≤ 128
  pub operators : Each (OperatorKeeps (signature_of d) n) d.operators
  pub few_operators : length d.operators ≤ 256
  pub control_closed : InScope [] (free_slots (tree_of_formula d.control))
  pub control_fits : Fits (signature_of d) [] (tree_of_formula d.control)
  pub control_named : IsNamed n (tree_of_formula d.control)

-- a fact: its predicate takes its values, which are named
pub record FactKeeps (g : Signature) (n : ℕ) (f : Fact) : Type 0 where
  pub takes : Takes g.predicates f.pred (length f.args)
  pub named : Each (ValueIsNamed n) f.args

-- a place with its value: its function takes its values, and all are named
pub record PlaceKeeps (g : Signature) (n : ℕ) (x : PlaceValue) : Type 0 where
  pub takes : Takes g.functions x.fun (length x.args)
  pub named : Each (ValueIsNamed n) x.args
  pub value : ValueIsNamed n x.value
