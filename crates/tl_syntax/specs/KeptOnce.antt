-- What a domain and a problem keep is kept in one way: each of these facts has at most one proof.
use Rattle.std.specs.Prelude.{◌≡◌, ◌<◌, ◌+◌, ℕ, List, [], ◌∷◌, ◌++◌, false, IsTrue}
use Rattle.std.specs.List.{list_any}
use Rattle.std.proofs.Props.{props}
use Rattle.tl_syntax.specs.declared.definition.Definition.{Definition}
use Rattle.tl_syntax.specs.declared.domain.Domain.{Domain}
use Rattle.tl_syntax.specs.declared.fact.Fact.{Fact}
use Rattle.tl_syntax.specs.declared.operator.Operator.{Operator}
use Rattle.tl_syntax.specs.declared.place_value.PlaceValue.{PlaceValue}
use Rattle.tl_syntax.specs.declared.declared.Declared.{Declared}
use Rattle.tl_syntax.specs.declared.value.Value.{Value}
use Rattle.tl_syntax.specs.declared.value.Value.TheVariants.{Int, Sym}
use Rattle.tl_syntax.specs.declared.variable.Var.{Var}
use Rattle.tl_syntax.specs.declared.variable.Arg.{Arg}
use Rattle.tl_syntax.specs.declared.variable.Arg.TheVariants as arg
use Rattle.tl_syntax.specs.declared.bound.Bound.{Bound}
use Rattle.tl_syntax.specs.declared.bound.Bound.TheVariants as bound
use Rattle.tl_syntax.specs.BoundVariables.{args_of, stands_in, DifferInSlot}
use Rattle.tl_syntax.specs.Effects.{EffectTree, EffectTrees, add, del, assign, when, each, no_effect, more_effects}
use Rattle.tl_syntax.specs.Fits.{ArgFits, ArgsFit, BoundFits, VariablesFit, TermFits, TermsFit, Fits, AllFit, EffectFits, EffectsFit}
use Rattle.tl_syntax.specs.FreeVariables.{is_slot_in, slots_of, bound_slots, free_slots, effects_slots, InScope}
use Rattle.tl_syntax.specs.Kept.{DeclarationKeeps, ParametersKeep, DefinitionKeeps, OperatorKeeps, DomainKeeps, FactKeeps, PlaceKeeps}
use Rattle.tl_syntax.specs.Lists.{Each}
use Rattle.tl_syntax.specs.Named.{ValueIsNamed, VariableIsNamed, ArgIsNamed, BoundIsNamed, TermIsNamed, TermsAreNamed, IsNamed, AreNamed}
use Rattle.tl_syntax.specs.Named.{EffectIsNamed, EffectsAreNamed}
use Rattle.tl_syntax.specs.Signature.{Signature, signature_of, with_definitions_below}
use Rattle.tl_syntax.specs.StateFormulas.{IsState, AreState, EffectIsState, EffectsAreState}
use Rattle.tl_syntax.specs.TreeOfEffect.{tree_of_effects}
use Rattle.tl_syntax.specs.TreeOfFormula.{tree_of_formula}
use Rattle.tl_syntax.specs.Trees.{TermTree, TermTrees, variable, value, place, arith, no_term, more_terms, FormulaTree, FormulaTrees, verum}
use Rattle.tl_syntax.specs.Trees.{falsum, atom, defined, compare, goal_fact, goal_place, goal_not, negation, conjunction, disjunction}
use Rattle.tl_syntax.specs.Trees.{for_all, for_some, next, always, eventually, until, within, during, no_formula, more_formulas}

pub Each-prop : {A : Type 0} (P : A → Type 0) → ((x : A) → IsProp (P x)) → (xs : List A) → IsProp (Each P xs)
Each-prop P p [] = hlevel
Each-prop P p (x ∷ xs) = hlevel (p x, Each-prop P p xs)

differ-prop : (ss : List Var) → IsProp (DifferInSlot ss)
differ-prop [] = hlevel
differ-prop (s ∷ ss) = hlevel (differ-prop ss, Each-prop {A = Var} (λ u. u.slot ≡ s.slot → ⊥) (λ u. hlevel) ss)

arg-prop : (x : Arg) → IsProp (ArgFits x)
arg-prop (arg.Var s) = hlevel props
arg-prop (arg.Val v) = hlevel

args-prop : (arities : List ℕ) (p : ℕ) (xs : List Arg) → IsProp (ArgsFit arities p xs)
args-prop arities p xs = hlevel (props, Each-prop ArgFits arg-prop xs)

bound-prop : (g : Signature) (b : Bound) → IsProp (BoundFits g b)
bound-prop g (bound.Fact p xs) = args-prop g.predicates p xs
bound-prop g (bound.Place f xs x) = hlevel (args-prop g.functions f xs, arg-prop x)
bound-prop g (bound.GoalFact p xs) = args-prop g.predicates p xs
bound-prop g (bound.GoalPlace f xs x) = hlevel (args-prop g.functions f xs, arg-prop x)
bound-prop g (bound.GoalNot p xs) = args-prop g.predicates p xs

variables-prop : (g : Signature) (around : List ℕ) (ss : List Var) (b : Bound) → IsProp (VariablesFit g around ss b)
variables-prop g around ss b =
    hlevel (
      props,
      Each-prop {A = Var} (λ s. s.slot < 32) (λ s. hlevel props) ss,
      Each-prop {A = Var} (λ s. is_slot_in around s.slot ≡ false) (λ s. hlevel props) ss,
      differ-prop ss,
      Each-prop {A = Var} (λ s. IsTrue (stands_in s b)) (λ s. hlevel props) ss,
      bound-prop g b,
    )

mutual
  unfolding TermFits

  term-prop : (g : Signature) (t : TermTree) → IsProp (TermFits g t)
  term-prop g (variable s) = hlevel props
  term-prop g (value v) = hlevel
  term-prop g (place f ts) = hlevel (props, terms-prop g ts)
  term-prop g (arith op s t at) = hlevel (term-prop g s, term-prop g t)

  terms-prop : (g : Signature) (ts : TermTrees) → IsProp (TermsFit g ts)
  terms-prop g no_term = hlevel
  terms-prop g (more_terms t ts) = hlevel (term-prop g t, terms-prop g ts)

mutual
  unfolding Fits

  pub fits-prop : (g : Signature) (around : List ℕ) (f : FormulaTree) → IsProp (Fits g around f)
  fits-prop g around verum = hlevel
  fits-prop g around falsum = hlevel
  fits-prop g around (atom p ts) = hlevel (props, terms-prop g ts)
  fits-prop g around (defined p ts) = hlevel (props, terms-prop g ts)
  fits-prop g around (compare c s t) = hlevel (term-prop g s, term-prop g t)
  fits-prop g around (goal_fact p xs) = args-prop g.predicates p xs
  fits-prop g around (goal_place f xs x) = hlevel (args-prop g.functions f xs, arg-prop x)
  fits-prop g around (goal_not p xs) = args-prop g.predicates p xs
  fits-prop g around (negation f) = fits-prop g around f
  fits-prop g around (conjunction fs) = all-prop g around fs
  fits-prop g around (disjunction fs) = all-prop g around fs
  fits-prop g around (for_all ss b f) = hlevel (variables-prop g around ss b, fits-prop g (slots_of ss ++ around) f)
  fits-prop g around (for_some ss b f) = hlevel (variables-prop g around ss b, fits-prop g (slots_of ss ++ around) f)
  fits-prop g around (next f) = fits-prop g around f
  fits-prop g around (always f) = fits-prop g around f
  fits-prop g around (eventually f) = fits-prop g around f
  fits-prop g around (until f h) = hlevel (fits-prop g around f, fits-prop g around h)
  fits-prop g around (within n f) = fits-prop g around f
  fits-prop g around (during n f) = fits-prop g around f

  all-prop : (g : Signature) (around : List ℕ) (fs : FormulaTrees) → IsProp (AllFit g around fs)
  all-prop g around no_formula = hlevel
  all-prop g around (more_formulas f fs) = hlevel (fits-prop g around f, all-prop g around fs)

mutual
  unfolding EffectFits

  effect-prop : (g : Signature) (around : List ℕ) (e : EffectTree) → IsProp (EffectFits g around e)
  effect-prop g around (add p ts) = hlevel (props, terms-prop g ts)
  effect-prop g around (del p ts) = hlevel (props, terms-prop g ts)
  effect-prop g around (assign f ts t) = hlevel (props, terms-prop g ts, term-prop g t)
  effect-prop g around (when f es) = hlevel (fits-prop g around f, effects-prop g around es)
  effect-prop g around (each ss b es) = hlevel (variables-prop g around ss b, effects-prop g (slots_of ss ++ around) es)

  effects-prop : (g : Signature) (around : List ℕ) (es : EffectTrees) → IsProp (EffectsFit g around es)
  effects-prop g around no_effect = hlevel
  effects-prop g around (more_effects e es) = hlevel (effect-prop g around e, effects-prop g around es)

pub named_value-prop : (n : ℕ) (v : Value) → IsProp (ValueIsNamed n v)
named_value-prop n (Int z) = hlevel
named_value-prop n (Sym k) = hlevel props

named_variables-prop : (n : ℕ) (ss : List Var) → IsProp (Each (VariableIsNamed n) ss)
named_variables-prop n ss = Each-prop (VariableIsNamed n) (λ s. hlevel props) ss

named_arg-prop : (n : ℕ) (x : Arg) → IsProp (ArgIsNamed n x)
named_arg-prop n (arg.Var s) = hlevel props
named_arg-prop n (arg.Val v) = named_value-prop n v

named_args-prop : (n : ℕ) (xs : List Arg) → IsProp (Each (ArgIsNamed n) xs)
named_args-prop n xs = Each-prop (ArgIsNamed n) (named_arg-prop n) xs

named_bound-prop : (n : ℕ) (b : Bound) → IsProp (BoundIsNamed n b)
named_bound-prop n b = named_args-prop n (args_of b)

mutual
  unfolding TermIsNamed

  named_term-prop : (n : ℕ) (t : TermTree) → IsProp (TermIsNamed n t)
  named_term-prop n (variable s) = hlevel props
  named_term-prop n (value v) = named_value-prop n v
  named_term-prop n (place f ts) = named_terms-prop n ts
  named_term-prop n (arith op s t at) = hlevel (named_term-prop n s, named_term-prop n t)

  named_terms-prop : (n : ℕ) (ts : TermTrees) → IsProp (TermsAreNamed n ts)
  named_terms-prop n no_term = hlevel
  named_terms-prop n (more_terms t ts) = hlevel (named_term-prop n t, named_terms-prop n ts)

mutual
  unfolding IsNamed

  pub named-prop : (n : ℕ) (f : FormulaTree) → IsProp (IsNamed n f)
  named-prop n verum = hlevel
  named-prop n falsum = hlevel
  named-prop n (atom p ts) = named_terms-prop n ts
  named-prop n (defined p ts) = named_terms-prop n ts
  named-prop n (compare c s t) = hlevel (named_term-prop n s, named_term-prop n t)
  named-prop n (goal_fact p xs) = named_args-prop n xs
  named-prop n (goal_place f xs x) = hlevel (named_args-prop n xs, named_arg-prop n x)
  named-prop n (goal_not p xs) = named_args-prop n xs
  named-prop n (negation f) = named-prop n f
  named-prop n (conjunction fs) = all_named-prop n fs
  named-prop n (disjunction fs) = all_named-prop n fs
  named-prop n (for_all ss b f) = hlevel (named_variables-prop n ss, named_bound-prop n b, named-prop n f)
  named-prop n (for_some ss b f) = hlevel (named_variables-prop n ss, named_bound-prop n b, named-prop n f)
  named-prop n (next f) = named-prop n f
  named-prop n (always f) = named-prop n f
  named-prop n (eventually f) = named-prop n f
  named-prop n (until f g) = hlevel (named-prop n f, named-prop n g)
  named-prop n (within k f) = named-prop n f
  named-prop n (during k f) = named-prop n f

  all_named-prop : (n : ℕ) (fs : FormulaTrees) → IsProp (AreNamed n fs)
  all_named-prop n no_formula = hlevel
  all_named-prop n (more_formulas f fs) = hlevel (named-prop n f, all_named-prop n fs)

mutual
  unfolding EffectIsNamed

  named_effect-prop : (n : ℕ) (e : EffectTree) → IsProp (EffectIsNamed n e)
  named_effect-prop n (add p ts) = named_terms-prop n ts
  named_effect-prop n (del p ts) = named_terms-prop n ts
  named_effect-prop n (assign f ts t) = hlevel (named_terms-prop n ts, named_term-prop n t)
  named_effect-prop n (when f es) = hlevel (named-prop n f, named_effects-prop n es)
  named_effect-prop n (each ss b es) = hlevel (named_variables-prop n ss, named_bound-prop n b, named_effects-prop n es)

  named_effects-prop : (n : ℕ) (es : EffectTrees) → IsProp (EffectsAreNamed n es)
  named_effects-prop n no_effect = hlevel
  named_effects-prop n (more_effects e es) = hlevel (named_effect-prop n e, named_effects-prop n es)

mutual
  pub state-prop : (f : FormulaTree) → IsProp (IsState f)
  state-prop verum = hlevel
  state-prop falsum = hlevel
  state-prop (atom p ts) = hlevel
  state-prop (defined p ts) = hlevel
  state-prop (compare c s t) = hlevel
  state-prop (goal_fact p xs) = hlevel
  state-prop (goal_place f xs x) = hlevel
  state-prop (goal_not p xs) = hlevel
  state-prop (negation f) = state-prop f
  state-prop (conjunction fs) = all_state-prop fs
  state-prop (disjunction fs) = all_state-prop fs
  state-prop (for_all ss b f) = state-prop f
  state-prop (for_some ss b f) = state-prop f
  state-prop (next f) = hlevel
  state-prop (always f) = hlevel
  state-prop (eventually f) = hlevel
  state-prop (until f g) = hlevel
  state-prop (within k f) = hlevel
  state-prop (during k f) = hlevel

  all_state-prop : (fs : FormulaTrees) → IsProp (AreState fs)
  all_state-prop no_formula = hlevel
  all_state-prop (more_formulas f fs) = hlevel (state-prop f, all_state-prop fs)

mutual
  state_effect-prop : (e : EffectTree) → IsProp (EffectIsState e)
  state_effect-prop (add p ts) = hlevel
  state_effect-prop (del p ts) = hlevel
  state_effect-prop (assign f ts t) = hlevel
  state_effect-prop (when f es) = hlevel (state-prop f, state_effects-prop es)
  state_effect-prop (each ss b es) = state_effects-prop es

  state_effects-prop : (es : EffectTrees) → IsProp (EffectsAreState es)
  state_effects-prop no_effect = hlevel
  state_effects-prop (more_effects e es) = hlevel (state_effect-prop e, state_effects-prop es)

pub scope-prop : (scope qs : List ℕ) → IsProp (InScope scope qs)
scope-prop scope qs = Each-prop (λ q. IsTrue (is_slot_in scope q)) (λ q. hlevel props) qs

declaration-prop : (n : ℕ) (d : Declared) → IsProp (DeclarationKeeps n d)
declaration-prop n d = hlevel props

parameters-prop : (n most : ℕ) (ss : List Var) → IsProp (ParametersKeep n most ss)
parameters-prop n most ss = hlevel (props, named_variables-prop n ss)

definition-prop : (g : Signature) (n i : ℕ) (d : Definition) → IsProp (DefinitionKeeps g n i d)
definition-prop g n i d = hlevel (
  props,
  parameters-prop n 8 d.params,
  state-prop (tree_of_formula d.body),
  scope-prop (slots_of d.params) (free_slots (tree_of_formula d.body)),
  fits-prop (with_definitions_below (i + 1) g) (slots_of d.params) (tree_of_formula d.body),
  named-prop n (tree_of_formula d.body),
)

operator-prop : (g : Signature) (n : ℕ) (o : Operator) → IsProp (OperatorKeeps g n o)
operator-prop g n o = hlevel (
  props,
  parameters-prop n 16 o.params,
  Each-prop {A = Var} (λ s. IsTrue (list_any (stands_in s) o.bounds)) (λ s. hlevel props) o.params,
  Each-prop (λ b. InScope (slots_of o.params) (bound_slots b)) (λ b. scope-prop (slots_of o.params) (bound_slots b)) o.bounds,
  Each-prop (BoundFits g) (bound-prop g) o.bounds,
  Each-prop (BoundIsNamed n) (named_bound-prop n) o.bounds,
  state-prop (tree_of_formula o.pre),
  scope-prop (slots_of o.params) (free_slots (tree_of_formula o.pre)),
  fits-prop g (slots_of o.params) (tree_of_formula o.pre),
  named-prop n (tree_of_formula o.pre),
  state_effects-prop (tree_of_effects o.effects),
  scope-prop (slots_of o.params) (effects_slots (tree_of_effects o.effects)),
  effects-prop g (slots_of o.params) (tree_of_effects o.effects),
  named_effects-prop n (tree_of_effects o.effects),
)

pub domain-prop : (n : ℕ) (d : Domain) → IsProp (DomainKeeps n d)
domain-prop n d = hlevel (
  props,
  Each-prop (DeclarationKeeps n) (declaration-prop n) d.predicates,
  Each-prop (DeclarationKeeps n) (declaration-prop n) d.functions,
  definition-prop (signature_of d) n,
  Each-prop (OperatorKeeps (signature_of d) n) (operator-prop (signature_of d) n) d.operators,
  scope-prop [] (free_slots (tree_of_formula d.control)),
  fits-prop (signature_of d) [] (tree_of_formula d.control),
  named-prop n (tree_of_formula d.control),
)

pub values-prop : (n : ℕ) (vs : List Value) → IsProp (Each (ValueIsNamed n) vs)
values-prop n vs = Each-prop (ValueIsNamed n) (named_value-prop n) vs

fact-prop : (g : Signature) (n : ℕ) (f : Fact) → IsProp (FactKeeps g n f)
fact-prop g n f = hlevel (props, values-prop n f.args)

place-prop : (g : Signature) (n : ℕ) (x : PlaceValue) → IsProp (PlaceKeeps g n x)
place-prop g n x = hlevel (props, values-prop n x.args, named_value-prop n x.value)

pub facts-prop : (g : Signature) (n : ℕ) (fs : List Fact) → IsProp (Each (FactKeeps g n) fs)
facts-prop g n fs = Each-prop (FactKeeps g n) (fact-prop g n) fs

pub places-prop : (g : Signature) (n : ℕ) (xs : List PlaceValue) → IsProp (Each (PlaceKeeps g n) xs)
places-prop g n xs = Each-prop (PlaceKeeps g n) (place-prop g n) xs
