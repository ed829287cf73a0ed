-- A formula means the same under two assignments that agree on its free variables.
use Rattle.std.proofs.Common.{◌≡◌, ℕ, List, [], ◌∷◌, ◌++◌, filter, cond, Bool, true, false, true≢false, not, length, ◌==◌, ◌||◌, ◌&&◌, Some}
use Rattle.std.proofs.Common.{None, refl, sym, ap, ap₂, ◌∙◌}
use mathlib.Core.Path.{fun_ext}
use Rattle.std.specs.List.{list_any, list_all}
use Rattle.std.specs.Prelude.{flat_map, is_some}
use Rattle.tl_syntax.specs.declared.bound.Bound.{Bound}
use Rattle.tl_syntax.specs.declared.bound.Bound.TheVariants as bound
use Rattle.tl_syntax.specs.declared.value.Value.{Value}
use Rattle.tl_syntax.specs.declared.variable.Arg.{Arg}
use Rattle.tl_syntax.specs.declared.variable.Arg.TheVariants as arg
use Rattle.tl_syntax.specs.declared.variable.Var.{Var}
use Rattle.tl_syntax.specs.Assignment.{Assignment, bind}
use Rattle.tl_syntax.specs.FreeVariables.{slots_of, arg_slots, bound_slots, is_slot_in, slots_without, term_slots, terms_slots, free_slots}
use Rattle.tl_syntax.specs.FreeVariables.{all_free_slots, InScope}
use Rattle.tl_syntax.specs.Lists.{Each}
use Rattle.tl_syntax.specs.Trees.{TermTree, TermTrees, variable, value, place, arith, no_term, more_terms, FormulaTree, FormulaTrees, verum}
use Rattle.tl_syntax.specs.Trees.{falsum, atom, defined, compare, goal_fact, goal_place, goal_not, negation, conjunction, disjunction}
use Rattle.tl_syntax.specs.Trees.{for_all, for_some, next, always, eventually, until, within, during, no_formula, more_formulas}
use Rattle.tl_terms.specs.Bounds.{arg_value, arg_values, fact_in, same_value, bound_true, tuples_of, tuples}
use Rattle.tl_terms.specs.Looked.{LookedTable, is_defined_integer, operation_on, leaves_open, followed_if, looked_in_term, looked_in_terms}
use Rattle.tl_terms.specs.Looked.{looked_in_body, looked_in_turn, looked_in_state, looked_in_and, looked_in_or}
use Rattle.tl_terms.specs.Situation.{Situation}
use Rattle.tl_terms.specs.Terms.{apply_op, prepend, place_value, term_value, term_values}
use Rattle.tl_terms.specs.Truth.{defined_true, compared, state_true, all_true, one_true}
use Rattle.tl_terms.specs.World.{World, values_of}

-- the two give each of the slots the same
abbrev pub Agree : List ℕ → Assignment → Assignment → Type 0
Agree qs d e = Each (λ q. d q ≡ e q) qs

first : (xs ys : List ℕ) (d e : Assignment) → Agree (xs ++ ys) d e → Agree xs d e
first [] ys d e h = tt
first (x ∷ xs) ys d e h = (h.0, first xs ys d e h.1)

second : (xs ys : List ℕ) (d e : Assignment) → Agree (xs ++ ys) d e → Agree ys d e
second [] ys d e h = h
second (x ∷ xs) ys d e h = second xs ys d e h.1

-- ---- terms, arguments and bounds

mutual
  unfolding term_value term_slots

  value-alike : (w : World) (d e : Assignment) (t : TermTree) → Agree (term_slots t) d e → term_value w d t ≡ term_value w e t
  value-alike w d e (variable s) h = h.0
  value-alike w d e (value v) h = refl
  value-alike w d e (place f ts) h = ap (place_value w f) (values-alike w d e ts h)
  value-alike w d e (arith op a b at) h = ap₂ (apply_op op) (value-alike w d e a (first (term_slots a) (term_slots b) d e h))
      (value-alike w d e b (second (term_slots a) (term_slots b) d e h))

  values-alike : (w : World) (d e : Assignment) (ts : TermTrees) → Agree (terms_slots ts) d e → term_values w d ts ≡ term_values w e ts
  values-alike w d e no_term h = refl
  values-alike w d e (more_terms t ts) h = ap₂ prepend (value-alike w d e t (first (term_slots t) (terms_slots ts) d e h))
      (values-alike w d e ts (second (term_slots t) (terms_slots ts) d e h))

mutual
  unfolding looked_in_term term_slots

  looks-alike : (w : World) (d e : Assignment) (t : TermTree) → Agree (term_slots t) d e → looked_in_term w d t ≡ looked_in_term w e t
  looks-alike w d e (variable s) h = refl
  looks-alike w d e (value v) h = refl
  looks-alike w d e (place f ts) h = all-looks-alike w d e ts h
  looks-alike w d e (arith op a b at) h =
      let k = first (term_slots a) (term_slots b) d e h in
      let l = second (term_slots a) (term_slots b) d e h in
      (λ i. followed_if (is_defined_integer (value-alike w d e a k i)) (looks-alike w d e a k i)
      (looks-alike w d e b l i ++ operation_on at op (value-alike w d e a k i) (value-alike w d e b l i)))

  all-looks-alike : (w : World) (d e : Assignment) (ts : TermTrees) → Agree (terms_slots ts) d e → looked_in_terms w d ts ≡
      looked_in_terms w e ts
  all-looks-alike w d e no_term h = refl
  all-looks-alike w d e (more_terms t ts) h =
      let k = first (term_slots t) (terms_slots ts) d e h in
      (λ i. followed_if (is_some (value-alike w d e t k i)) (looks-alike w d e t k i)
      (all-looks-alike w d e ts (second (term_slots t) (terms_slots ts) d e h) i))

arg-alike : (d e : Assignment) (x : Arg) → Agree (arg_slots x) d e → arg_value d x ≡ arg_value e x
arg-alike d e (arg.Var s) h = h.0
arg-alike d e (arg.Val v) h = refl

args-alike : (d e : Assignment) (xs : List Arg) → Agree (flat_map arg_slots xs) d e → arg_values d xs ≡ arg_values e xs
args-alike d e [] h = refl
args-alike d e (x ∷ xs) h = ap₂ prepend (arg-alike d e x (first (arg_slots x) (flat_map arg_slots xs) d e h))
    (args-alike d e xs (second (arg_slots x) (flat_map arg_slots xs) d e h))

bound-alike : (s : Situation) (d e : Assignment) (b : Bound) → Agree (bound_slots b) d e → bound_true s d b ≡ bound_true s e b
unfolding bound_true
bound-alike s d e (bound.Fact p xs) h = ap (fact_in s.world p) (args-alike d e xs h)
bound-alike s d e (bound.Place f xs x) h = ap₂ (λ m n. same_value (place_value s.world f m) n)
    (args-alike d e xs (second (arg_slots x) (flat_map arg_slots xs) d e h))
    (arg-alike d e x (first (arg_slots x) (flat_map arg_slots xs) d e h))
bound-alike s d e (bound.GoalFact p xs) h = ap (fact_in s.goal p) (args-alike d e xs h)
bound-alike s d e (bound.GoalPlace f xs x) h = ap₂ (λ m n. same_value (place_value s.goal f m) n)
    (args-alike d e xs (second (arg_slots x) (flat_map arg_slots xs) d e h))
    (arg-alike d e x (first (arg_slots x) (flat_map arg_slots xs) d e h))
bound-alike s d e (bound.GoalNot p xs) h = ap (fact_in s.avoid p) (args-alike d e xs h)

-- ---- below a quantifier

bound-slot : (ss : List Var) (t : List Value) (d e : Assignment) (q : ℕ) → (is_slot_in (slots_of ss) q ≡ false → d q ≡ e q) →
    bind ss t d q ≡ bind ss t e q
bound-slot [] t d e q h = h refl
bound-slot (s ∷ ss) [] d e q h =
    (elim (q == s.slot) as (λ b. ((b || is_slot_in (slots_of ss) q) ≡ false → d q ≡ e q) → cond b None (bind ss [] d q) ≡
    cond b None (bind ss [] e q)) [ true ↦ λ k. refl | false ↦ λ k. bound-slot ss [] d e q k ]) h
bound-slot (s ∷ ss) (v ∷ t) d e q h =
    (elim (q == s.slot) as (λ b. ((b || is_slot_in (slots_of ss) q) ≡ false → d q ≡ e q) → cond b (Some v) (bind ss t d q) ≡
    cond b (Some v) (bind ss t e q)) [ true ↦ λ k. refl | false ↦ λ k. bound-slot ss t d e q k ]) h

below : (ss : List Var) (t : List Value) (d e : Assignment) (qs : List ℕ) → Agree (slots_without (slots_of ss) qs) d e →
    Agree qs (bind ss t d) (bind ss t e)
below ss t d e [] h = tt
below ss t d e (q ∷ qs) h =
    (elim (is_slot_in (slots_of ss) q) as (λ b. is_slot_in (slots_of ss) q ≡ b →
    Agree (cond (not b) (q ∷ slots_without (slots_of ss) qs) (slots_without (slots_of ss) qs)) d e → (bind ss t d q ≡ bind ss t e q) ×
    Agree qs (bind ss t d) (bind ss t e)) [
      | true ↦ λ k m. (bound-slot ss t d e q (λ z. absurd (true≢false (sym k ∙ z))), below ss t d e qs m)
      | false ↦ λ k m. (bound-slot ss t d e q (λ z. m.0), below ss t d e qs m.1)
    ]) refl h

-- the variables of a scope have their values, whatever the other slots have
pub in-scope : (ss : List Var) (t : List Value) (d e : Assignment) (qs : List ℕ) → InScope (slots_of ss) qs →
    Agree qs (bind ss t d) (bind ss t e)
in-scope ss t d e [] h = tt
in-scope ss t d e (q ∷ qs) h = (bound-slot ss t d e q (λ z. absurd (true≢false (sym h.0 ∙ z))), in-scope ss t d e qs h.1)

tuples-alike : (s : Situation) (d e : Assignment) (ss : List Var) (b : Bound) →
    ((u : List Value) → Agree (bound_slots b) (bind ss u d) (bind ss u e)) → tuples s d ss b ≡ tuples s e ss b
unfolding tuples
tuples-alike s d e ss b h =
    ap (λ (test : List Value → Bool). filter test (tuples_of (values_of (s.world ∷ s.goal ∷ s.avoid ∷ [])) (length ss)))
    (fun_ext (λ u. bound-alike s (bind ss u d) (bind ss u e) b (h u)))

-- ---- formulas

-- what is known of a quantifier's bound and of the formula below it, for each tuple
record Inside (ss : List Var) (b : Bound) (f : FormulaTree) (d e : Assignment) (u : List Value) : Type 0 where
  bounds : Agree (bound_slots b) (bind ss u d) (bind ss u e)
  below : Agree (free_slots f) (bind ss u d) (bind ss u e)

inside : (ss : List Var) (b : Bound) (f : FormulaTree) (d e : Assignment) →
    Agree (slots_without (slots_of ss) (bound_slots b ++ free_slots f)) d e → (u : List Value) → Inside ss b f d e u
inside ss b f d e h u =
    let all = below ss u d e (bound_slots b ++ free_slots f) h in
    record {
      bounds = first (bound_slots b) (free_slots f) (bind ss u d) (bind ss u e) all;
      below =
          second (bound_slots b) (free_slots f) (bind ss u d) (bind ss u e) all;
    }

mutual
  unfolding state_true free_slots

  pub truth-alike : (s : Situation) (d e : Assignment) (f : FormulaTree) → Agree (free_slots f) d e → state_true s d f ≡ state_true s e f
  truth-alike s d e verum h = refl
  truth-alike s d e falsum h = refl
  truth-alike s d e (atom p ts) h = ap (fact_in s.world p) (values-alike s.world d e ts h)
  truth-alike s d e (defined p ts) h = ap (defined_true s.table p) (values-alike s.world d e ts h)
  truth-alike s d e (compare c x y) h = ap₂ (compared c) (value-alike s.world d e x (first (term_slots x) (term_slots y) d e h))
      (value-alike s.world d e y (second (term_slots x) (term_slots y) d e h))
  truth-alike s d e (goal_fact p xs) h = ap (fact_in s.goal p) (args-alike d e xs h)
  truth-alike s d e (goal_place f xs x) h = ap₂ (λ m n. same_value (place_value s.goal f m) n)
      (args-alike d e xs (second (arg_slots x) (flat_map arg_slots xs) d e h))
      (arg-alike d e x (first (arg_slots x) (flat_map arg_slots xs) d e h))
  truth-alike s d e (goal_not p xs) h = ap (fact_in s.avoid p) (args-alike d e xs h)
  truth-alike s d e (negation f) h = ap not (truth-alike s d e f h)
  truth-alike s d e (conjunction fs) h = all-alike s d e fs h
  truth-alike s d e (disjunction fs) h = one-alike s d e fs h
  truth-alike s d e (for_all ss b f) h =
      ap₂ (λ (p : List Value → Bool) ts. list_all p ts) (fun_ext (λ u.
      truth-alike s (bind ss u d) (bind ss u e) f (inside ss b f d e h u).below))
      (tuples-alike s d e ss b (λ u. (inside ss b f d e h u).bounds))
  truth-alike s d e (for_some ss b f) h =
      ap₂ (λ (p : List Value → Bool) ts. list_any p ts) (fun_ext (λ u.
      truth-alike s (bind ss u d) (bind ss u e) f (inside ss b f d e h u).below))
      (tuples-alike s d e ss b (λ u. (inside ss b f d e h u).bounds))
  truth-alike s d e (next f) h = refl
  truth-alike s d e (always f) h = refl
  truth-alike s d e (eventually f) h = refl
  truth-alike s d e (until f g) h = refl
  truth-alike s d e (within k f) h = refl
  truth-alike s d e (during k f) h = refl

  all-alike : (s : Situation) (d e : Assignment) (fs : FormulaTrees) → Agree (all_free_slots fs) d e → all_true s d fs ≡ all_true s e fs
  all-alike s d e no_formula h = refl
  all-alike s d e (more_formulas f fs) h = ap₂ (λ a b. a && b) (truth-alike s d e f (first (free_slots f) (all_free_slots fs) d e h))
      (all-alike s d e fs (second (free_slots f) (all_free_slots fs) d e h))

  one-alike : (s : Situation) (d e : Assignment) (fs : FormulaTrees) → Agree (all_free_slots fs) d e → one_true s d fs ≡ one_true s e fs
  one-alike s d e no_formula h = refl
  one-alike s d e (more_formulas f fs) h = ap₂ (λ a b. a || b) (truth-alike s d e f (first (free_slots f) (all_free_slots fs) d e h))
      (one-alike s d e fs (second (free_slots f) (all_free_slots fs) d e h))

mutual
  unfolding looked_in_state free_slots

  pub state-looks-alike : (t : LookedTable) (s : Situation) (d e : Assignment) (f : FormulaTree) → Agree (free_slots f) d e →
      looked_in_state t s d f ≡ looked_in_state t s e f
  state-looks-alike t s d e verum h = refl
  state-looks-alike t s d e falsum h = refl
  state-looks-alike t s d e (atom p ts) h = all-looks-alike s.world d e ts h
  state-looks-alike t s d e (defined n ts) h = λ i. all-looks-alike s.world d e ts h i ++
      looked_in_body t n (values-alike s.world d e ts h i)
  state-looks-alike t s d e (compare c x y) h =
      let k = first (term_slots x) (term_slots y) d e h in
      (λ i. followed_if (leaves_open c (value-alike s.world d e x k i)) (looks-alike s.world d e x k i)
      (looks-alike s.world d e y (second (term_slots x) (term_slots y) d e h) i))
  state-looks-alike t s d e (goal_fact p xs) h = refl
  state-looks-alike t s d e (goal_place f xs x) h = refl
  state-looks-alike t s d e (goal_not p xs) h = refl
  state-looks-alike t s d e (negation f) h = state-looks-alike t s d e f h
  state-looks-alike t s d e (conjunction fs) h = and-looks-alike t s d e fs h
  state-looks-alike t s d e (disjunction fs) h = or-looks-alike t s d e fs h
  state-looks-alike t s d e (for_all ss b f) h =
      λ i. looked_in_turn (λ u. state-looks-alike t s (bind ss u d) (bind ss u e) f (inside ss b f d e h u).below i)
      (λ u. truth-alike s (bind ss u d) (bind ss u e) f (inside ss b f d e h u).below i)
      (tuples-alike s d e ss b (λ u. (inside ss b f d e h u).bounds) i)
  state-looks-alike t s d e (for_some ss b f) h =
      λ i. looked_in_turn (λ u. state-looks-alike t s (bind ss u d) (bind ss u e) f (inside ss b f d e h u).below i)
      (λ u. not (truth-alike s (bind ss u d) (bind ss u e) f (inside ss b f d e h u).below i))
      (tuples-alike s d e ss b (λ u. (inside ss b f d e h u).bounds) i)
  state-looks-alike t s d e (next f) h = refl
  state-looks-alike t s d e (always f) h = refl
  state-looks-alike t s d e (eventually f) h = refl
  state-looks-alike t s d e (until f g) h = refl
  state-looks-alike t s d e (within k f) h = refl
  state-looks-alike t s d e (during k f) h = refl

  and-looks-alike : (t : LookedTable) (s : Situation) (d e : Assignment) (fs : FormulaTrees) → Agree (all_free_slots fs) d e →
      looked_in_and t s d fs ≡ looked_in_and t s e fs
  and-looks-alike t s d e no_formula h = refl
  and-looks-alike t s d e (more_formulas f fs) h =
      let k = first (free_slots f) (all_free_slots fs) d e h in
      (λ i. followed_if (truth-alike s d e f k i) (state-looks-alike t s d e f k i)
      (and-looks-alike t s d e fs (second (free_slots f) (all_free_slots fs) d e h) i))

  or-looks-alike : (t : LookedTable) (s : Situation) (d e : Assignment) (fs : FormulaTrees) → Agree (all_free_slots fs) d e →
      looked_in_or t s d fs ≡ looked_in_or t s e fs
  or-looks-alike t s d e no_formula h = refl
  or-looks-alike t s d e (more_formulas f fs) h =
      let k = first (free_slots f) (all_free_slots fs) d e h in
      (λ i. followed_if (not (truth-alike s d e f k i)) (state-looks-alike t s d e f k i)
      (or-looks-alike t s d e fs (second (free_slots f) (all_free_slots fs) d e h) i))
