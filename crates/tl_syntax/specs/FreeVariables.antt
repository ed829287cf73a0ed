-- The free variables of trees, by their slots.
use Rattle.std.specs.Prelude.{ℕ, List, [], ◌∷◌, ◌++◌, flat_map, filter, map, Bool, not, IsTrue, ◌==◌}
use Rattle.std.specs.List.{list_any}
use Rattle.tl_syntax.specs.declared.variable.Var.{Var}
use Rattle.tl_syntax.specs.declared.variable.Arg.{Arg}
use Rattle.tl_syntax.specs.declared.variable.Arg.TheVariants as arg
use Rattle.tl_syntax.specs.declared.bound.Bound.{Bound}
use Rattle.tl_syntax.specs.BoundVariables.{args_of}
use Rattle.tl_syntax.specs.Effects.{EffectTree, EffectTrees, add, del, assign, when, each, no_effect, more_effects}
use Rattle.tl_syntax.specs.Lists.{Each}
use Rattle.tl_syntax.specs.Trees.{TermTree, TermTrees, variable, value, place, arith, no_term, more_terms, FormulaTree, FormulaTrees, verum}
use Rattle.tl_syntax.specs.Trees.{falsum, atom, defined, compare, goal_fact, goal_place, goal_not, negation, conjunction, disjunction}
use Rattle.tl_syntax.specs.Trees.{for_all, for_some, next, always, eventually, until, within, during, no_formula, more_formulas}

-- the slots of variables
abbrev pub slots_of : List Var → List ℕ
slots_of ss = map (λ s. s.slot) ss

-- the slot of an argument that is a variable
abbrev pub arg_slots : Arg → List ℕ
arg_slots (arg.Var s) = s.slot ∷ []
arg_slots (arg.Val v) = []

-- the slots of the variables in a bound
abbrev pub bound_slots : Bound → List ℕ
bound_slots b = flat_map arg_slots (args_of b)

-- the slot is in the list
abbrev pub is_slot_in : List ℕ → ℕ → Bool
is_slot_in slots q = list_any (λ k. q == k) slots

-- the slots that are none of the list
abbrev pub slots_without : List ℕ → List ℕ → List ℕ
slots_without slots qs = filter (λ q. not (is_slot_in slots q)) qs

-- the slots of the variables in a term, and in a list of terms
unfoldable mutual
  pub term_slots : TermTree → List ℕ
  term_slots (variable s) = s.slot ∷ []
  term_slots (value v) = []
  term_slots (place f ts) = terms_slots ts
  term_slots (arith op s t at) = term_slots s ++ term_slots t

  pub terms_slots : TermTrees → List ℕ
  terms_slots no_term = []
  terms_slots (more_terms t ts) = term_slots t ++ terms_slots ts

-- the slots of the free variables of a formula: a quantifier binds its own in its bound and below
-- it
unfoldable mutual
  pub free_slots : FormulaTree → List ℕ
  free_slots verum = []
  free_slots falsum = []
  free_slots (atom p ts) = terms_slots ts
  free_slots (defined p ts) = terms_slots ts
  free_slots (compare c s t) = term_slots s ++ term_slots t
  free_slots (goal_fact p xs) = flat_map arg_slots xs
  free_slots (goal_place f xs x) = flat_map arg_slots (x ∷ xs)
  free_slots (goal_not p xs) = flat_map arg_slots xs
  free_slots (negation f) = free_slots f
  free_slots (conjunction fs) = all_free_slots fs
  free_slots (disjunction fs) = all_free_slots fs
  free_slots (for_all ss b f) = slots_without (slots_of ss) (bound_slots b ++ free_slots f)
  free_slots (for_some ss b f) = slots_without (slots_of ss) (bound_slots b ++ free_slots f)
  free_slots (next f) = free_slots f
  free_slots (always f) = free_slots f
  free_slots (eventually f) = free_slots f
  free_slots (until f g) = free_slots f ++ free_slots g
  free_slots (within n f) = free_slots f
  free_slots (during n f) = free_slots f

  pub all_free_slots : FormulaTrees → List ℕ
  all_free_slots no_formula = []
  all_free_slots (more_formulas f fs) = free_slots f ++ all_free_slots fs

-- the slots of the free variables of an effect, and of a list of effects
unfoldable mutual
  pub effect_slots : EffectTree → List ℕ
  effect_slots (add p ts) = terms_slots ts
  effect_slots (del p ts) = terms_slots ts
  effect_slots (assign f ts t) = terms_slots ts ++ term_slots t
  effect_slots (when f es) = free_slots f ++ effects_slots es
  effect_slots (each ss b es) = slots_without (slots_of ss) (bound_slots b ++ effects_slots es)

  pub effects_slots : EffectTrees → List ℕ
  effects_slots no_effect = []
  effects_slots (more_effects e es) = effect_slots e ++ effects_slots es

-- each of these slots is one of the scope
abbrev pub InScope : List ℕ → List ℕ → Type 0
InScope scope qs = Each (λ q. IsTrue (is_slot_in scope q)) qs
