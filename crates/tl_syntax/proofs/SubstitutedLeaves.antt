-- The free variables of a formula with values put in are those without a value.
use Rattle.std.proofs.Common.{◌≡◌, ℕ, List, [], ◌∷◌, ◌++◌, flat_map, filter, Bool, true, false, cond, not, ◌==◌, ◌&&◌, ◌||◌, Some, None}
use Rattle.std.proofs.Common.{refl, sym, ap, ap₂, ◌∙◌}
use Rattle.std.specs.Prelude.{is_none}
use mathlib.Core.Path.{fun_ext}
use Rattle.tl_syntax.specs.declared.variable.Var.{Var}
use Rattle.tl_syntax.specs.declared.variable.Arg.{Arg}
use Rattle.tl_syntax.specs.declared.variable.Arg.TheVariants as arg
use Rattle.tl_syntax.specs.declared.bound.Bound.{Bound}
use Rattle.tl_syntax.specs.declared.bound.Bound.TheVariants as bound
use Rattle.tl_syntax.specs.Assignment.{Assignment}
use Rattle.tl_syntax.specs.FreeVariables.{slots_of, arg_slots, bound_slots, is_slot_in, slots_without, term_slots, terms_slots, free_slots}
use Rattle.tl_syntax.specs.FreeVariables.{all_free_slots}
use Rattle.tl_syntax.specs.Substitution.{without, value_or_arg, substituted_arg, substituted_args, substituted_bound, value_or_term}
use Rattle.tl_syntax.specs.Substitution.{substituted_term, substituted_terms, substituted, substituted_all}
use Rattle.tl_syntax.specs.Trees.{TermTree, variable, value, place, arith, TermTrees, no_term, more_terms, FormulaTree, verum, falsum, atom}
use Rattle.tl_syntax.specs.Trees.{defined, compare, goal_fact, goal_place, goal_not, negation, conjunction, disjunction, for_all, for_some}
use Rattle.tl_syntax.specs.Trees.{next, always, eventually, until, within, during, FormulaTrees, no_formula, more_formulas}

-- the slots without a value
abbrev left : Assignment → List ℕ → List ℕ
left e qs = filter (λ q. is_none (e q)) qs

filter-append : (p : ℕ → Bool) (xs ys : List ℕ) → filter p (xs ++ ys) ≡ filter p xs ++ filter p ys
filter-append p [] ys = refl
filter-append p (x ∷ xs) ys = (elim (p x) as (λ b. cond b (x ∷ filter p (xs ++ ys)) (filter p (xs ++ ys)) ≡
    cond b (x ∷ filter p xs) (filter p xs) ++ filter p ys) [
      | true ↦ ap (λ (r : List ℕ). x ∷ r) (filter-append p xs ys)
      | false ↦ filter-append p xs ys
    ])

filter-twice : (p q : ℕ → Bool) (xs : List ℕ) → filter p (filter q xs) ≡ filter (λ x. q x && p x) xs
filter-twice p q [] = refl
filter-twice p q (x ∷ xs) = (elim (q x) as (λ b. filter p (cond b (x ∷ filter q xs) (filter q xs)) ≡
    cond (b && p x) (x ∷ filter (λ y. q y && p y) xs) (filter (λ y. q y && p y) xs)) [
      | true ↦ ap (λ (r : List ℕ). cond (p x) (x ∷ r) r) (filter-twice p q xs)
      | false ↦ filter-twice p q xs
    ])

both-left : (e : Assignment) {xs ys : List ℕ} (us vs : List ℕ) → xs ≡ left e us → ys ≡ left e vs → xs ++ ys ≡ left e (us ++ vs)
both-left e us vs h k = ap₂ ◌++◌ h k ∙ sym (filter-append (λ q. is_none (e q)) us vs)

arg-left : (e : Assignment) (x : Arg) → arg_slots (substituted_arg e x) ≡ left e (arg_slots x)
arg-left e (arg.Val v) = refl
arg-left e (arg.Var s) = (elim (e s.slot) as (λ o. arg_slots (value_or_arg o (arg.Var s)) ≡ cond (is_none o) (s.slot ∷ []) [])
    [ Some v ↦ refl | None ↦ refl ])

args-left : (e : Assignment) (xs : List Arg) → flat_map arg_slots (substituted_args e xs) ≡ left e (flat_map arg_slots xs)
args-left e [] = refl
args-left e (x ∷ xs) = both-left e _ _ (arg-left e x) (args-left e xs)

pub bound-left : (e : Assignment) (b : Bound) → bound_slots (substituted_bound e b) ≡ left e (bound_slots b)
bound-left e (bound.Fact p xs) = args-left e xs
bound-left e (bound.Place f xs x) = args-left e (x ∷ xs)
bound-left e (bound.GoalFact p xs) = args-left e xs
bound-left e (bound.GoalPlace f xs x) = args-left e (x ∷ xs)
bound-left e (bound.GoalNot p xs) = args-left e xs

mutual
  unfolding term_slots substituted_term

  term-left : (e : Assignment) (t : TermTree) → term_slots (substituted_term e t) ≡ left e (term_slots t)
  term-left e (variable s) = (elim (e s.slot) as (λ o. term_slots (value_or_term o (variable s)) ≡ cond (is_none o) (s.slot ∷ []) [])
      [ Some v ↦ refl | None ↦ refl ])
  term-left e (value v) = refl
  term-left e (place f ts) = terms-left e ts
  term-left e (arith op s t at) = both-left e _ _ (term-left e s) (term-left e t)

  terms-left : (e : Assignment) (ts : TermTrees) → terms_slots (substituted_terms e ts) ≡ left e (terms_slots ts)
  terms-left e no_term = refl
  terms-left e (more_terms t ts) = both-left e _ _ (term-left e t) (terms-left e ts)

-- a slot of the variables has no value without theirs, and another slot has its own
without-at : (ss : List Var) (e : Assignment) (q : ℕ) → without ss e q ≡ cond (is_slot_in (slots_of ss) q) None (e q)
without-at [] e q = refl
without-at (s ∷ ss) e q = (elim (q == s.slot) as (λ b. cond b None (without ss e q) ≡ cond (b || is_slot_in (slots_of ss) q) None (e q))
    [ true ↦ refl | false ↦ without-at ss e q ])

-- below a quantifier
quantified-left : (ss : List Var) (e : Assignment) (qs : List ℕ) → slots_without (slots_of ss) (left (without ss e) qs) ≡
    left e (slots_without (slots_of ss) qs)
quantified-left ss e qs =
    filter-twice (λ q. not (is_slot_in (slots_of ss) q)) (λ q. is_none (without ss e q)) qs
    ∙ (ap (λ (p : ℕ → Bool). filter p qs) (fun_ext (λ q. each q))
    ∙ sym (filter-twice (λ q. is_none (e q)) (λ q. not (is_slot_in (slots_of ss) q)) qs))
  where
    and-true : (b : Bool) → (b && true) ≡ b
    and-true true = refl
    and-true false = refl

    each : (q : ℕ) → (is_none (without ss e q) && not (is_slot_in (slots_of ss) q)) ≡ (not (is_slot_in (slots_of ss) q) && is_none (e q))
    each q = ap (λ o. is_none o && not (is_slot_in (slots_of ss) q)) (without-at ss e q) ∙
        (elim (is_slot_in (slots_of ss) q) as (λ b. (is_none (cond b None (e q)) && not b) ≡ (not b && is_none (e q))) [
          | true ↦ refl
          | false ↦ and-true (is_none (e q))
        ])

mutual
  unfolding free_slots substituted

  pub formula-left : (e : Assignment) (f : FormulaTree) → free_slots (substituted e f) ≡ left e (free_slots f)
  formula-left e verum = refl
  formula-left e falsum = refl
  formula-left e (atom p ts) = terms-left e ts
  formula-left e (defined p ts) = terms-left e ts
  formula-left e (compare c s t) = both-left e _ _ (term-left e s) (term-left e t)
  formula-left e (goal_fact p xs) = args-left e xs
  formula-left e (goal_place f xs x) = args-left e (x ∷ xs)
  formula-left e (goal_not p xs) = args-left e xs
  formula-left e (negation f) = formula-left e f
  formula-left e (conjunction fs) = all-left e fs
  formula-left e (disjunction fs) = all-left e fs
  formula-left e (for_all ss b f) = ap (slots_without (slots_of ss)) (both-left (without ss e) _ _ (bound-left (without ss e) b)
      (formula-left (without ss e) f)) ∙ quantified-left ss e (bound_slots b ++ free_slots f)
  formula-left e (for_some ss b f) = ap (slots_without (slots_of ss)) (both-left (without ss e) _ _ (bound-left (without ss e) b)
      (formula-left (without ss e) f)) ∙ quantified-left ss e (bound_slots b ++ free_slots f)
  formula-left e (next f) = formula-left e f
  formula-left e (always f) = formula-left e f
  formula-left e (eventually f) = formula-left e f
  formula-left e (until f g) = both-left e _ _ (formula-left e f) (formula-left e g)
  formula-left e (within n f) = formula-left e f
  formula-left e (during n f) = formula-left e f

  all-left : (e : Assignment) (fs : FormulaTrees) → all_free_slots (substituted_all e fs) ≡ left e (all_free_slots fs)
  all-left e no_formula = refl
  all-left e (more_formulas f fs) = both-left e _ _ (formula-left e f) (all-left e fs)
