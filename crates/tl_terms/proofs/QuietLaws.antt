-- Where no arithmetic term stands, nothing is looked at.
use Rattle.std.proofs.Common.{◌≡◌, ℕ, zero, suc, List, [], ◌∷◌, ◌++◌, map, flat_map, length, take, slice_get, Bool, true, false, cond, not}
use Rattle.std.proofs.Common.{◌&&◌, ◌==◌, Option, Some, None, refl, sym, ap₂, subst}
use Rattle.std.specs.Prelude.{is_some}
use Rattle.std.specs.List.{list_all}
use Rattle.tl_syntax.specs.declared.action.Action.{Action}
use Rattle.tl_syntax.specs.declared.value.Value.{Value}
use Rattle.tl_syntax.specs.Assignment.{Assignment, no_values, bind}
use Rattle.tl_syntax.specs.Effects.{EffectTree, EffectTrees, add, del, assign, when, each, no_effect, more_effects}
use Rattle.tl_syntax.specs.Lists.{Each}
use Rattle.tl_syntax.specs.Substitution.{value_or_term, substituted_term, substituted_terms, without, substituted, substituted_all}
use Rattle.tl_syntax.specs.Trees.{TermTree, TermTrees, variable, value, place, arith, no_term, more_terms, FormulaTree, FormulaTrees, verum}
use Rattle.tl_syntax.specs.Trees.{falsum, atom, defined, compare, goal_fact, goal_place, goal_not, negation, conjunction, disjunction}
use Rattle.tl_syntax.specs.Trees.{for_all, for_some, next, always, eventually, until, within, during, no_formula, more_formulas}
use Rattle.tl_syntax.proofs.ListLaws.{Each-append}
use Rattle.tl_terms.specs.Acceptance.{last_of, all_but_last}
use Rattle.tl_terms.specs.Arithmetic.{TermHasNoArithmetic, TermsHaveNoArithmetic, HasNoArithmetic, HaveNoArithmetic, EffectHasNoArithmetic}
use Rattle.tl_terms.specs.Arithmetic.{EffectsHaveNoArithmetic, ProblemHasNoArithmetic}
use Rattle.tl_terms.specs.Bounds.{bound_true, tuples}
use Rattle.tl_terms.specs.Calm.{NonePastRange}
use Rattle.tl_terms.specs.Definitions.{Tests, true_at_level, with_tests_of, situation_under, situation_of}
use Rattle.tl_terms.specs.LawsCalm.{LooksAtNothing}
use Rattle.tl_terms.specs.Looked.{followed_if, looked_in_term, looked_in_terms, LookedTable, looked_in_body, leaves_open, looked_in_turn}
use Rattle.tl_terms.specs.Looked.{looked_in_state, looked_in_and, looked_in_or, Looks, looked_table, looked_at_level, looks_over, looks_of}
use Rattle.tl_terms.specs.Looked.{looked_in_basics, looked_in_parts, looked_by_progressing, looked_by_idling, looked_after, looked_along}
use Rattle.tl_terms.specs.Looked.{looked_in_each, looked_in_effect, looked_in_effects, looked_by_operator, looked_by_operator_if}
use Rattle.tl_terms.specs.Looked.{looked_by_action}
use Rattle.tl_terms.specs.Operations.{Operation}
use Rattle.tl_terms.specs.Pairs.{residual}
use Rattle.tl_terms.specs.Problem.{PlainDefinition, PlainOperator, PlainProblem}
use Rattle.tl_terms.specs.Progression.{progressed, progressed_all}
use Rattle.tl_terms.specs.Simplification.{simplified_and, simplified_or}
use Rattle.tl_terms.specs.Situation.{Situation}
use Rattle.tl_terms.specs.Terms.{term_value, term_values}
use Rattle.tl_terms.specs.Truth.{state_true}
use Rattle.tl_terms.specs.World.{World}
use Rattle.tl_terms.proofs.ByParts.{EachOf, GoesByParts, of-and, of-or, of-not, of-constant, each-map}

-- ---- lists that are empty

both-quiet : {xs ys : List Operation} → xs ≡ [] → ys ≡ [] → xs ++ ys ≡ []
both-quiet h k = ap₂ ◌++◌ h k

if-quiet : (b : Bool) {xs : List Operation} → xs ≡ [] → cond b xs [] ≡ []
if-quiet true h = h
if-quiet false h = refl

followed-quiet : (b : Bool) {xs ys : List Operation} → xs ≡ [] → ys ≡ [] → followed_if b xs ys ≡ []
followed-quiet b h k = both-quiet h (if-quiet b k)

flat-quiet : {A : Type 0} (looked : A → List Operation) → ((x : A) → looked x ≡ []) → (xs : List A) → flat_map looked xs ≡ []
flat-quiet looked h [] = refl
flat-quiet looked h (x ∷ xs) = both-quiet (h x) (flat-quiet looked h xs)

turn-quiet : (looked : List Value → List Operation) (goes_on : List Value → Bool) → ((t : List Value) → looked t ≡ [])
    → (ts : List (List Value)) → looked_in_turn looked goes_on ts ≡ []
turn-quiet looked goes_on h [] = refl
turn-quiet looked goes_on h (t ∷ ts) = followed-quiet (goes_on t) (h t) (turn-quiet looked goes_on h ts)

-- ---- terms

mutual
  unfolding looked_in_term

  term-quiet : (w : World) (e : Assignment) (t : TermTree) → TermHasNoArithmetic t → looked_in_term w e t ≡ []
  term-quiet w e (variable s) h = refl
  term-quiet w e (value v) h = refl
  term-quiet w e (place f ts) h = terms-quiet w e ts h
  term-quiet w e (arith op s t at) h = absurd h

  terms-quiet : (w : World) (e : Assignment) (ts : TermTrees) → TermsHaveNoArithmetic ts → looked_in_terms w e ts ≡ []
  terms-quiet w e no_term h = refl
  terms-quiet w e (more_terms t ts) h = followed-quiet (is_some (term_value w e t)) (term-quiet w e t h.0) (terms-quiet w e ts h.1)

each-quiet : (w : World) (e : Assignment) (ts : TermTrees) → TermsHaveNoArithmetic ts → looked_in_each w e ts ≡ []
unfolding looked_in_each
each-quiet w e no_term h = refl
each-quiet w e (more_terms t ts) h = both-quiet (term-quiet w e t h.0) (each-quiet w e ts h.1)

-- ---- formulas and effects, where definitions look at nothing

module _ (d : LookedTable) (quiet : (n : ℕ) (vs : List Value) → d n vs ≡ []) where
  body-quiet : (n : ℕ) (o : Option (List Value)) → looked_in_body d n o ≡ []
  body-quiet n None = refl
  body-quiet n (Some vs) = quiet n vs

  mutual
    unfolding looked_in_state

    state-quiet : (s : Situation) (e : Assignment) (f : FormulaTree) → HasNoArithmetic f → looked_in_state d s e f ≡ []
    state-quiet s e verum h = refl
    state-quiet s e falsum h = refl
    state-quiet s e (atom p ts) h = terms-quiet s.world e ts h
    state-quiet s e (defined n ts) h = both-quiet (terms-quiet s.world e ts h) (body-quiet n (term_values s.world e ts))
    state-quiet s e (compare c x y) h =
        followed-quiet (leaves_open c (term_value s.world e x)) (term-quiet s.world e x h.0) (term-quiet s.world e y h.1)
    state-quiet s e (goal_fact p xs) h = refl
    state-quiet s e (goal_place f xs x) h = refl
    state-quiet s e (goal_not p xs) h = refl
    state-quiet s e (negation f) h = state-quiet s e f h
    state-quiet s e (conjunction fs) h = and-quiet s e fs h
    state-quiet s e (disjunction fs) h = or-quiet s e fs h
    state-quiet s e (for_all ss b f) h =
        turn-quiet (λ t. looked_in_state d s (bind ss t e) f) (λ t. state_true s (bind ss t e) f) (λ t. state-quiet s (bind ss t e) f h)
        (tuples s e ss b)
    state-quiet s e (for_some ss b f) h =
        turn-quiet (λ t. looked_in_state d s (bind ss t e) f) (λ t. not (state_true s (bind ss t e) f))
        (λ t. state-quiet s (bind ss t e) f h) (tuples s e ss b)
    state-quiet s e (next f) h = refl
    state-quiet s e (always f) h = refl
    state-quiet s e (eventually f) h = refl
    state-quiet s e (until f g) h = refl
    state-quiet s e (within n f) h = refl
    state-quiet s e (during n f) h = refl

    and-quiet : (s : Situation) (e : Assignment) (fs : FormulaTrees) → HaveNoArithmetic fs → looked_in_and d s e fs ≡ []
    and-quiet s e no_formula h = refl
    and-quiet s e (more_formulas f fs) h = followed-quiet (state_true s e f) (state-quiet s e f h.0) (and-quiet s e fs h.1)

    or-quiet : (s : Situation) (e : Assignment) (fs : FormulaTrees) → HaveNoArithmetic fs → looked_in_or d s e fs ≡ []
    or-quiet s e no_formula h = refl
    or-quiet s e (more_formulas f fs) h = followed-quiet (not (state_true s e f)) (state-quiet s e f h.0) (or-quiet s e fs h.1)

  mutual
    unfolding looked_in_basics

    basics-quiet : (n : Bool) (bs : List Situation) (s : Situation) (e : Assignment) (f : FormulaTree) → HasNoArithmetic f
        → looked_in_basics n d bs s e f ≡ []
    basics-quiet n bs s e verum h = refl
    basics-quiet n bs s e falsum h = refl
    basics-quiet n bs s e (atom p ts) h = state-quiet s e (atom p ts) h
    basics-quiet n bs s e (defined p ts) h = state-quiet s e (defined p ts) h
    basics-quiet n bs s e (compare c x y) h = state-quiet s e (compare c x y) h
    basics-quiet n bs s e (goal_fact p xs) h = refl
    basics-quiet n bs s e (goal_place f xs x) h = refl
    basics-quiet n bs s e (goal_not p xs) h = refl
    basics-quiet n bs s e (negation f) h = basics-quiet n bs s e f h
    basics-quiet n bs s e (conjunction fs) h = parts-quiet n bs s e fs h
    basics-quiet n bs s e (disjunction fs) h = parts-quiet n bs s e fs h
    basics-quiet n bs s e (for_all ss b f) h =
        flat-quiet (λ t. looked_in_basics n d bs s (bind ss t e) f) (λ t. basics-quiet n bs s (bind ss t e) f h)
        (flat_map (λ q. tuples q e ss b) bs)
    basics-quiet n bs s e (for_some ss b f) h =
        flat-quiet (λ t. looked_in_basics n d bs s (bind ss t e) f) (λ t. basics-quiet n bs s (bind ss t e) f h)
        (flat_map (λ q. tuples q e ss b) bs)
    basics-quiet n bs s e (next f) h = if-quiet n (basics-quiet n bs s e f h)
    basics-quiet n bs s e (always f) h = basics-quiet n bs s e f h
    basics-quiet n bs s e (eventually f) h = basics-quiet n bs s e f h
    basics-quiet n bs s e (until f g) h = both-quiet (basics-quiet n bs s e f h.0) (basics-quiet n bs s e g h.1)
    basics-quiet n bs s e (within m f) h = basics-quiet n bs s e f h
    basics-quiet n bs s e (during m f) h = basics-quiet n bs s e f h

    parts-quiet : (n : Bool) (bs : List Situation) (s : Situation) (e : Assignment) (fs : FormulaTrees) → HaveNoArithmetic fs
        → looked_in_parts n d bs s e fs ≡ []
    parts-quiet n bs s e no_formula h = refl
    parts-quiet n bs s e (more_formulas f fs) h = both-quiet (basics-quiet n bs s e f h.0) (parts-quiet n bs s e fs h.1)

  mutual
    unfolding looked_in_effect

    effect-quiet : (s : Situation) (e : Assignment) (x : EffectTree) → EffectHasNoArithmetic x → looked_in_effect d s e x ≡ []
    effect-quiet s e (add p ts) h = each-quiet s.world e ts h
    effect-quiet s e (del p ts) h = each-quiet s.world e ts h
    effect-quiet s e (assign f ts t) h = both-quiet (each-quiet s.world e ts h.0) (term-quiet s.world e t h.1)
    effect-quiet s e (when f es) h = followed-quiet (state_true s e f) (state-quiet s e f h.0) (effects-quiet s e es h.1)
    effect-quiet s e (each vs b es) h =
        flat-quiet (λ t. looked_in_effects d s (bind vs t e) es) (λ t. effects-quiet s (bind vs t e) es h) (tuples s e vs b)

    effects-quiet : (s : Situation) (e : Assignment) (xs : EffectTrees) → EffectsHaveNoArithmetic xs → looked_in_effects d s e xs ≡ []
    effects-quiet s e no_effect h = refl
    effects-quiet s e (more_effects x xs) h = both-quiet (effect-quiet s e x h.0) (effects-quiet s e xs h.1)

-- ---- definitions

-- each of them looks at nothing for any values
AreQuiet : Looks → Type 0
AreQuiet ls = Each (λ (looked : List Value → List Operation). (vs : List Value) → looked vs ≡ []) ls

table-quiet : (ls : Looks) → AreQuiet ls → (n : ℕ) (vs : List Value) → looked_table ls n vs ≡ []
unfolding AreQuiet
table-quiet [] q zero vs = refl
table-quiet [] q (suc n) vs = refl
table-quiet (l ∷ ls) q zero vs = q.0 vs
table-quiet (l ∷ ls) q (suc n) vs = table-quiet ls q.1 n vs

one-more : (ls : Looks) (looked : List Value → List Operation) → AreQuiet ls → ((vs : List Value) → looked vs ≡ [])
    → AreQuiet (ls ++ looked ∷ [])
unfolding AreQuiet
one-more ls looked q h =
    (Each-append (λ (looked : List Value → List Operation). (vs : List Value) → looked vs ≡ []) ls (looked ∷ [])).1 (q, (h, tt))

module _ (p : PlainProblem) (w : World) where
  level-quiet : (ts : Tests) (ls : Looks) (d : PlainDefinition) → HasNoArithmetic d.body → AreQuiet ls → (k : ℕ) (vs : List Value)
      → looked_at_level p w ts ls d k vs ≡ []
  unfolding looked_at_level
  level-quiet ts ls d h q zero vs = refl
  level-quiet ts ls d h q (suc k) vs =
      let deeper : Looks = ls ++ looked_at_level p w ts ls d k ∷ [] in
      state-quiet (looked_table deeper)
      (table-quiet deeper (one-more ls (looked_at_level p w ts ls d k) q (λ us. level-quiet ts ls d h q k us)))
      (situation_under p w (ts ++ true_at_level p w ts d k ∷ [])) (bind d.params vs no_values) d.body h

  over-quiet : (ts : Tests) (ls : Looks) (ds : List PlainDefinition) → Each (λ d. HasNoArithmetic d.body) ds → AreQuiet ls
      → AreQuiet (looks_over p w ts ls ds)
  unfolding looks_over
  over-quiet ts ls [] h q = q
  over-quiet ts ls (d ∷ ds) h q =
      over-quiet (with_tests_of p w ts d) (ls ++ looked_at_level p w ts ls d d.levels ∷ []) ds h.1
      (one-more ls (looked_at_level p w ts ls d d.levels) q (λ us. level-quiet ts ls d h.0 q d.levels us))

  looks-quiet : Each (λ d. HasNoArithmetic d.body) p.definitions → (n : ℕ) (vs : List Value) → looks_of p w n vs ≡ []
  unfolding looks_of AreQuiet
  looks-quiet h = table-quiet (looks_over p w [] [] p.definitions) (over-quiet [] [] p.definitions h tt)

-- ---- what progression leaves

mutual
  unfolding substituted_term

  put-in-term : (e : Assignment) (t : TermTree) → TermHasNoArithmetic t → TermHasNoArithmetic (substituted_term e t)
  put-in-term e (variable s) h = elim (e s.slot) as (λ o. TermHasNoArithmetic (value_or_term o (variable s))) [ Some v ↦ tt | None ↦ tt ]
  put-in-term e (value v) h = h
  put-in-term e (place f ts) h = put-in-terms e ts h
  put-in-term e (arith op s t at) h = absurd h

  put-in-terms : (e : Assignment) (ts : TermTrees) → TermsHaveNoArithmetic ts → TermsHaveNoArithmetic (substituted_terms e ts)
  put-in-terms e no_term h = h
  put-in-terms e (more_terms t ts) h = (put-in-term e t h.0, put-in-terms e ts h.1)

mutual
  unfolding substituted

  put-in : (e : Assignment) (f : FormulaTree) → HasNoArithmetic f → HasNoArithmetic (substituted e f)
  put-in e verum h = h
  put-in e falsum h = h
  put-in e (atom p ts) h = put-in-terms e ts h
  put-in e (defined p ts) h = put-in-terms e ts h
  put-in e (compare c x y) h = (put-in-term e x h.0, put-in-term e y h.1)
  put-in e (goal_fact p xs) h = h
  put-in e (goal_place f xs x) h = h
  put-in e (goal_not p xs) h = h
  put-in e (negation f) h = put-in e f h
  put-in e (conjunction fs) h = put-in-all e fs h
  put-in e (disjunction fs) h = put-in-all e fs h
  put-in e (for_all ss b f) h = put-in (without ss e) f h
  put-in e (for_some ss b f) h = put-in (without ss e) f h
  put-in e (next f) h = put-in e f h
  put-in e (always f) h = put-in e f h
  put-in e (eventually f) h = put-in e f h
  put-in e (until f g) h = (put-in e f h.0, put-in e g h.1)
  put-in e (within n f) h = put-in e f h
  put-in e (during n f) h = put-in e f h

  put-in-all : (e : Assignment) (fs : FormulaTrees) → HaveNoArithmetic fs → HaveNoArithmetic (substituted_all e fs)
  put-in-all e no_formula h = h
  put-in-all e (more_formulas f fs) h = (put-in e f h.0, put-in-all e fs h.1)

by-parts : GoesByParts HasNoArithmetic
by-parts = record {
  truth = tt;
  falsehood = tt;
  of_and = out;
  and_of = back;
  of_or = out;
  or_of = back;
  of_not = λ f h. h;
  not_of = λ f h. h;
}
  where
    out : (fs : FormulaTrees) → HaveNoArithmetic fs → EachOf HasNoArithmetic fs
    out no_formula h = tt
    out (more_formulas f fs) h = (h.0, out fs h.1)

    back : (fs : FormulaTrees) → EachOf HasNoArithmetic fs → HaveNoArithmetic fs
    back no_formula h = tt
    back (more_formulas f fs) h = (h.0, back fs h.1)

module _ (s : Situation) where
  both-parts : (f g : FormulaTree) → HasNoArithmetic f → HasNoArithmetic g → HasNoArithmetic (simplified_and (f ∷ g ∷ []))
  both-parts f g h k = of-and HasNoArithmetic by-parts (f ∷ g ∷ []) (h, (k, tt))

  one-part : (f g : FormulaTree) → HasNoArithmetic f → HasNoArithmetic g → HasNoArithmetic (simplified_or (f ∷ g ∷ []))
  one-part f g h k = of-or HasNoArithmetic by-parts (f ∷ g ∷ []) (h, (k, tt))

  mutual
    unfolding progressed

    quiet-next : (e : Assignment) (f : FormulaTree) → HasNoArithmetic f → HasNoArithmetic (progressed s e f)
    quiet-next e verum h = tt
    quiet-next e falsum h = tt
    quiet-next e (atom p ts) h = of-constant HasNoArithmetic by-parts _
    quiet-next e (defined p ts) h = of-constant HasNoArithmetic by-parts _
    quiet-next e (compare c x y) h = of-constant HasNoArithmetic by-parts _
    quiet-next e (goal_fact p xs) h = of-constant HasNoArithmetic by-parts _
    quiet-next e (goal_place f xs x) h = of-constant HasNoArithmetic by-parts _
    quiet-next e (goal_not p xs) h = of-constant HasNoArithmetic by-parts _
    quiet-next e (negation f) h = of-not HasNoArithmetic by-parts (progressed s e f) (quiet-next e f h)
    quiet-next e (conjunction fs) h = of-and HasNoArithmetic by-parts (progressed_all s e fs) (all-quiet-next e fs h)
    quiet-next e (disjunction fs) h = of-or HasNoArithmetic by-parts (progressed_all s e fs) (all-quiet-next e fs h)
    quiet-next e (for_all ss b f) h =
        of-and HasNoArithmetic by-parts (map (λ t. progressed s (bind ss t e) f) (tuples s e ss b))
        (each-map HasNoArithmetic by-parts (λ t. progressed s (bind ss t e) f) (tuples s e ss b) (λ t _. quiet-next (bind ss t e) f h))
    quiet-next e (for_some ss b f) h =
        of-or HasNoArithmetic by-parts (map (λ t. progressed s (bind ss t e) f) (tuples s e ss b))
        (each-map HasNoArithmetic by-parts (λ t. progressed s (bind ss t e) f) (tuples s e ss b) (λ t _. quiet-next (bind ss t e) f h))
    quiet-next e (next f) h = put-in e f h
    quiet-next e (always f) h = both-parts (progressed s e f) (substituted e (always f)) (quiet-next e f h) (put-in e (always f) h)
    quiet-next e (eventually f) h =
        one-part (progressed s e f) (substituted e (eventually f)) (quiet-next e f h) (put-in e (eventually f) h)
    quiet-next e (until f g) h =
        one-part (progressed s e g) (simplified_and (progressed s e f ∷ substituted e (until f g) ∷ [])) (quiet-next e g h.1)
        (both-parts (progressed s e f) (substituted e (until f g)) (quiet-next e f h.0) (put-in e (until f g) h))
    quiet-next e (within zero f) h = quiet-next e f h
    quiet-next e (within (suc n) f) h =
        one-part (progressed s e f) (substituted e (within n f)) (quiet-next e f h) (put-in e (within n f) h)
    quiet-next e (during zero f) h = quiet-next e f h
    quiet-next e (during (suc n) f) h =
        both-parts (progressed s e f) (substituted e (during n f)) (quiet-next e f h) (put-in e (during n f) h)

    all-quiet-next : (e : Assignment) (fs : FormulaTrees) → HaveNoArithmetic fs → Each HasNoArithmetic (progressed_all s e fs)
    all-quiet-next e no_formula h = tt
    all-quiet-next e (more_formulas f fs) h = (quiet-next e f h.0, all-quiet-next e fs h.1)

residual-quiet : (p : PlainProblem) (ws : List World) (f : FormulaTree) → HasNoArithmetic f → HasNoArithmetic (residual p ws f)
unfolding residual
residual-quiet p [] f h = h
residual-quiet p (w ∷ ws) f h =
    residual-quiet p ws (progressed (situation_of p w) no_values f) (quiet-next (situation_of p w) no_values f h)

-- ---- a problem

none-past : {os : List Operation} → os ≡ [] → NonePastRange os
none-past e = subst NonePastRange (sym e) tt

module _ (p : PlainProblem) (h : ProblemHasNoArithmetic p) where
  quiet-table : (w : World) (n : ℕ) (vs : List Value) → looks_of p w n vs ≡ []
  quiet-table w = looks-quiet p w h.definitions

  progressing-quiet : (w : World) (f : FormulaTree) → HasNoArithmetic f → looked_by_progressing p w f ≡ []
  unfolding looked_by_progressing
  progressing-quiet w f k = basics-quiet (looks_of p w) (quiet-table w) false (situation_of p w ∷ []) (situation_of p w) no_values f k

  idling-quiet : (w : World) (f : FormulaTree) → HasNoArithmetic f → looked_by_idling p w f ≡ []
  unfolding looked_by_idling
  idling-quiet w f k = basics-quiet (looks_of p w) (quiet-table w) true (situation_of p w ∷ []) (situation_of p w) no_values f k

  after-quiet : (ws : List World) (o : Option World) (f : FormulaTree) → HasNoArithmetic f → looked_after p ws o f ≡ []
  after-quiet ws None f k = refl
  after-quiet ws (Some w) f k = basics-quiet (looks_of p w) (quiet-table w) true (map (situation_of p) ws) (situation_of p w) no_values f k

  along-quiet : (ws : List World) (k : ℕ) → looked_along p ws k p.control ≡ []
  unfolding looked_along
  along-quiet ws k = after-quiet (take (suc k) ws) (slice_get ws k) p.control h.control

  operator-quiet : (w : World) (o : PlainOperator) (vs : List Value) → HasNoArithmetic o.pre × EffectsHaveNoArithmetic o.effects
      → looked_by_operator p w o vs ≡ []
  unfolding looked_by_operator
  operator-quiet w o vs k =
      let s = situation_of p w in
      let e = bind o.params vs no_values in
      if-quiet ((length vs == length o.params) && list_all (bound_true s e) o.bounds)
      (followed-quiet (state_true s e o.pre) (state-quiet (looks_of p w) (quiet-table w) s e o.pre k.0)
      (effects-quiet (looks_of p w) (quiet-table w) s e o.effects k.1))

  operators-quiet : (w : World) (vs : List Value) (os : List PlainOperator)
      → Each (λ o. HasNoArithmetic o.pre × EffectsHaveNoArithmetic o.effects) os → (n : ℕ)
      → looked_by_operator_if p w vs (slice_get os n) ≡ []
  operators-quiet w vs [] k zero = refl
  operators-quiet w vs [] k (suc n) = refl
  operators-quiet w vs (o ∷ os) k zero = operator-quiet w o vs k.0
  operators-quiet w vs (o ∷ os) k (suc n) = operators-quiet w vs os k.1 n

  action-quiet : (w : World) (a : Action) → looked_by_action p w a ≡ []
  unfolding looked_by_action
  action-quiet w a = operators-quiet w a.args p.operators h.operators a.op

-- a problem without arithmetic terms looks at nothing
pub looks-at-nothing : (p : PlainProblem) → ProblemHasNoArithmetic p → LooksAtNothing p
looks-at-nothing p h = record {
  acting = action-quiet p h;
  along = along-quiet p h;
  searching = λ n path from after reached ran. record {
    progressing =
        none-past
        (progressing-quiet p h (last_of from after) (residual p (all_but_last from after) p.control)
        (residual-quiet p (all_but_last from after) p.control h.control));
    idling =
        λ o. none-past (idling-quiet p h (last_of from after) (residual p (from ∷ after) p.control)
        (residual-quiet p (from ∷ after) p.control h.control));
    acting = λ o l a. none-past (action-quiet p h (last_of from after) a);
  };
}
