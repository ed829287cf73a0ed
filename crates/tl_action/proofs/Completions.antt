-- The rows that complete a frame, before and after a bound.
use Rattle.std.proofs.Common.{◌≡◌, ◌↔◌, ◌⊎◌, ℕ, List, [], ◌∷◌, ◌++◌, map, filter, flat_map, length, Bool, true, false, true≢false, cond}
use Rattle.std.proofs.Common.{◌==◌, ◌&&◌, ◌||◌, not, Option, Some, None, is_some, IsTrue, inl, inr, refl, sym, ap, ◌∙◌, subst, arith}
use Rattle.std.proofs.Common.{eqb-true}
use Rattle.std.specs.List.{list_any}
use Rattle.std.proofs.lemmas.Bool.{eq-eqb}
use Rattle.std.proofs.lemmas.List.{length-map}
use Rattle.tl_action.specs.Join.{stands_in_one, is_new, AgreeOnSeen, row_assignment, IsCompletion}
use Rattle.tl_action.proofs.Agreement.{bind-kept, bind-past, bound-agrees}
use Rattle.tl_syntax.specs.declared.bound.Bound.{Bound}
use Rattle.tl_syntax.specs.declared.value.Value.{Value}
use Rattle.tl_syntax.specs.declared.value.Value.TheVariants.{Sym}
use Rattle.tl_syntax.specs.declared.variable.Arg.{Arg}
use Rattle.tl_syntax.specs.declared.variable.Arg.TheVariants as arg
use Rattle.tl_syntax.specs.declared.variable.Var.{Var}
use Rattle.tl_syntax.specs.Assignment.{Assignment, bind, no_values}
use Rattle.tl_syntax.specs.BoundVariables.{is_that_variable, stands_in, args_of, DifferInSlot, OccurIn}
use Rattle.tl_syntax.specs.FreeVariables.{slots_of, arg_slots, bound_slots, is_slot_in, InScope}
use Rattle.tl_syntax.specs.Lists.{AtLeastOne, Among}
use Rattle.tl_syntax.proofs.ListLaws.{Each-Among, one_in}
use Rattle.tl_terms.specs.Bounds.{bound_true, tuples}
use Rattle.tl_terms.specs.Definitions.{situation_of}
use Rattle.tl_terms.specs.Problem.{PlainOperator, PlainProblem}
use Rattle.tl_terms.specs.World.{World}
use Rattle.tl_terms.proofs.Tuples.{all-tuples}

-- ---- variables by their slots

-- a variable of the slot
abbrev at_slot : ℕ → Var
at_slot q = record { slot = q; name = 0 }

-- the slot is one of the variables', and one of them has it
slot-out : (ss : List Var) (q : ℕ) → is_slot_in (slots_of ss) q ≡ true → (s : Var) × Among s ss × (s.slot ≡ q)
slot-out [] q h = absurd (true≢false (sym h))
slot-out (s ∷ ss) q h = (elim (q == s.slot) as (λ b. (q == s.slot) ≡ b → (b || is_slot_in (slots_of ss) q) ≡ true → (u : Var) ×
    Among u (s ∷ ss) × (u.slot ≡ q)) [
      | true ↦ λ z k. (s, inl refl, sym (eqb-true q s.slot z))
      | false ↦ λ z k. let w = slot-out ss q k in (w.0, inr w.1, w.2)
    ]) refl h

slot-in : (ss : List Var) (s : Var) → Among s ss → is_slot_in (slots_of ss) s.slot ≡ true
slot-in [] s h = absurd h
slot-in (u ∷ ss) s h = elim h [
  | inl e ↦ ap (λ (b : Bool). b || is_slot_in (slots_of ss) s.slot) (eq-eqb s.slot u.slot (ap (λ (v : Var). v.slot) (sym e)))
  | inr k ↦ ap (λ (b : Bool). (s.slot == u.slot) || b) (slot-in ss s k) ∙ or-true (s.slot == u.slot)
]
  where
    or-true : (b : Bool) → (b || true) ≡ true
    or-true true = refl
    or-true false = refl

-- a slot of a bound is one of a variable that stands in it
stands-at : (xs : List Arg) (q : ℕ) (s : Var) → s.slot ≡ q → Among q (flat_map arg_slots xs) → list_any (is_that_variable s) xs ≡ true
stands-at [] q s e h = absurd h
stands-at (arg.Var u ∷ xs) q s e h = elim h [
  | inl k ↦ ap (λ (b : Bool). b || list_any (is_that_variable s) xs) (eq-eqb u.slot s.slot (k ∙ sym e))
  | inr k ↦ ap (λ (b : Bool). (u.slot == s.slot) || b) (stands-at xs q s e k) ∙ or-true (u.slot == s.slot)
]
  where
    or-true : (b : Bool) → (b || true) ≡ true
    or-true true = refl
    or-true false = refl
stands-at (arg.Val v ∷ xs) q s e h = stands-at xs q s e h

-- whether it stands in a bound goes by the slot alone
stands-alike : (b : Bound) (s u : Var) → s.slot ≡ u.slot → stands_in s b ≡ stands_in u b
stands-alike b s u e = λ i. list_any (is_that_variable (record { slot = e i; name = s.name })) (args_of b)

one-alike : (seen : List Bound) (s u : Var) → s.slot ≡ u.slot → stands_in_one seen s ≡ stands_in_one seen u
one-alike [] s u e = refl
one-alike (b ∷ seen) s u e = λ i. stands-alike b s u e i || one-alike seen s u e i

new-alike : (seen : List Bound) (b : Bound) (s u : Var) → s.slot ≡ u.slot → is_new seen b s ≡ is_new seen b u
new-alike seen b s u e = λ i. stands-alike b s u e i && not (one-alike seen s u e i)

among-filter : (p : Var → Bool) (ss : List Var) (s : Var) → Among s (filter p ss) → Among s ss × (p s ≡ true)
among-filter p [] s h = absurd h
among-filter p (u ∷ ss) s h = (elim (p u) as (λ b. p u ≡ b → AtLeastOne (λ z. z ≡ s) (cond b (u ∷ filter p ss) (filter p ss)) →
    (u ≡ s ⊎ Among s ss) × (p s ≡ true)) [
      | true ↦ λ z. elim [
        | inl e ↦ (inl e, subst (λ (v : Var). p v ≡ true) e z)
        | inr k ↦
            (let w = among-filter p ss s k in (inr w.0, w.1))
      ]
      | false ↦ λ z k. let w = among-filter p ss s k in (inr w.0, w.1)
    ]) refl h

filter-among : (p : Var → Bool) (ss : List Var) (s : Var) → Among s ss → p s ≡ true → Among s (filter p ss)
filter-among p [] s h k = absurd h
filter-among p (u ∷ ss) s h k = (elim (p u) as (λ b. p u ≡ b → AtLeastOne (λ z. z ≡ s) (cond b (u ∷ filter p ss) (filter p ss))) [
  | true ↦ λ z. elim h [ inl e ↦ inl e | inr l ↦ inr (filter-among p ss s l k) ]
  | false ↦ λ z. elim h [
    | inl e ↦ absurd (true≢false (sym (subst (λ (v : Var). p v ≡ true) (sym e) k) ∙ z))
    | inr l ↦ filter-among p ss s l
        k
  ]
]) refl

-- the slot of a parameter is new exactly where the parameter is
new-slot : (seen : List Bound) (b : Bound) (ss : List Var) (s : Var) → Among s ss →
    is_slot_in (slots_of (filter (is_new seen b) ss)) s.slot ≡ is_new seen b s
new-slot seen b ss s m = (elim (is_new seen b s) as (λ x. is_new seen b s ≡ x → is_slot_in (slots_of (filter (is_new seen b) ss)) s.slot ≡
    x) [
      | true ↦ λ z. slot-in (filter (is_new seen b) ss) s (filter-among (is_new seen b) ss s m z)
      | false ↦ λ z. (elim (is_slot_in (slots_of (filter (is_new seen b) ss)) s.slot) as
          (λ y. is_slot_in (slots_of (filter (is_new seen b) ss)) s.slot ≡ y → y ≡ false) [
            | true ↦ λ k. let w = slot-out (filter (is_new seen b) ss) s.slot k in
                absurd (true≢false (sym (among-filter (is_new seen b) ss w.0 w.1).1 ∙ (new-alike seen b w.0 s w.2 ∙ z)))
            | false ↦ λ k. refl
          ]) refl
    ]) refl

one-of-two : (seen : List Bound) (b : Bound) (s : Var) → stands_in_one (seen ++ b ∷ []) s ≡ (stands_in_one seen s || stands_in s b)
one-of-two [] b s = or-false (stands_in s b)
  where
    or-false : (x : Bool) → (x || false) ≡ x
    or-false true = refl
    or-false false = refl
one-of-two (x ∷ seen) b s = (elim (stands_in s x) as (λ c. (c || stands_in_one (seen ++ b ∷ []) s) ≡
    ((c || stands_in_one seen s) || stands_in s b)) [ true ↦ refl | false ↦ one-of-two seen b s ])

-- a variable that stands in one of those or in the next one is new there, or stood in one before
new-or-known : (seen : List Bound) (b : Bound) (s : Var) → stands_in_one (seen ++ b ∷ []) s ≡ true → is_new seen b s ≡ false →
    stands_in_one seen s ≡ true
new-or-known seen b s h k = by (stands_in s b) (stands_in_one seen s) (sym (one-of-two seen b s) ∙ h) k
  where
    by : (x y : Bool) → (y || x) ≡ true → (x && not y) ≡ false → y ≡ true
    by x true h k = refl
    by true false h k = absurd (true≢false k)
    by false false h k = h

known-next : (seen : List Bound) (b : Bound) (s : Var) → stands_in_one seen s ≡ true → stands_in_one (seen ++ b ∷ []) s ≡ true
known-next seen b s h = one-of-two seen b s ∙ ap (λ (x : Bool). x || stands_in s b) h

known-not-new : (seen : List Bound) (b : Bound) (s : Var) → stands_in_one seen s ≡ true → is_new seen b s ≡ false
known-not-new seen b s h = ap (λ (x : Bool). stands_in s b && not x) h ∙ and-false (stands_in s b)
  where
    and-false : (x : Bool) → (x && false) ≡ false
    and-false true = refl
    and-false false = refl

stands-next : (seen : List Bound) (b : Bound) (s : Var) → stands_in s b ≡ true → stands_in_one (seen ++ b ∷ []) s ≡ true
stands-next seen b s h = one-of-two seen b s ∙ (ap (λ (x : Bool). stands_in_one seen s || x) h ∙ or-true (stands_in_one seen s))
  where
    or-true : (x : Bool) → (x || true) ≡ true
    or-true true = refl
    or-true false = refl

-- ---- values by their slots

abbrev value_or : Option Value → Value
value_or (Some v) = v
value_or None = Sym 0

-- the variables with the values that an assignment gives them
abbrev copied : List Var → Assignment → List Value
copied ss g = map (λ s. value_or (g s.slot)) ss

copy-at : (ss : List Var) (g e : Assignment) (q : ℕ) → is_some (g q) ≡ true → is_slot_in (slots_of ss) q ≡ true →
    bind ss (copied ss g) e q ≡ g q
copy-at [] g e q k h = absurd (true≢false (sym h))
copy-at (s ∷ ss) g e q k h = (elim (q == s.slot) as (λ b. (q == s.slot) ≡ b → (b || is_slot_in (slots_of ss) q) ≡ true →
    cond b (Some (value_or (g s.slot))) (bind ss (copied ss g) e q) ≡ g q) [
      | true ↦ λ z m. ap (λ (n : ℕ). Some (value_or (g n))) (sym (eqb-true q s.slot z)) ∙ some-is (g q) k
      | false ↦ λ z m. copy-at ss g e q k m
    ]) refl h
  where
    some-is : (o : Option Value) → is_some o ≡ true → Some (value_or o) ≡ o
    some-is (Some v) h = refl
    some-is None h = absurd (true≢false (sym h))

bound-some : (ss : List Var) (t : List Value) (e : Assignment) (q : ℕ) → length t ≡ length ss → is_slot_in (slots_of ss) q ≡ true →
    is_some (bind ss t e q) ≡ true
bound-some [] t e q n h = absurd (true≢false (sym h))
bound-some (s ∷ ss) [] e q n h = absurd (omega arith)
bound-some (s ∷ ss) (v ∷ t) e q n h = (elim (q == s.slot) as (λ b. (b || is_slot_in (slots_of ss) q) ≡ true →
    is_some (cond b (Some v) (bind ss t e q)) ≡ true) [ true ↦ λ k. refl | false ↦ λ k. bound-some ss t e q (omega (arith, n)) k ]) h

-- ---- a bound and its new variables

module _ (p : PlainProblem) (w : World) (o : PlainOperator) (seen : List Bound) (b : Bound) (rest : List Bound)
    (scope : InScope (slots_of o.params) (bound_slots b)) where
  abbrev pub fresh : List Var
  fresh = filter (is_new seen b) o.params

  -- a frame that gives the known variables what another gives them does so with the new ones, too
  pub known-through : (u : List Value) (d e : Assignment) → AgreeOnSeen seen o.params d e →
      AgreeOnSeen (seen ++ b ∷ []) o.params (bind fresh u d) (bind fresh u e)
  known-through u d e k = (Each-Among (λ (s : Var). stands_in_one (seen ++ b ∷ []) s ≡ true → bind fresh u d s.slot ≡ bind fresh u e s.slot)
      o.params).1 (λ s m h.
      bind-kept fresh u d e s.slot (λ z. (Each-Among (λ (x : Var). stands_in_one seen x ≡ true → d x.slot ≡ e x.slot) o.params).0 k s m
      (new-or-known seen b s h (sym (new-slot seen b o.params s m) ∙ z))))

  -- the known variables keep their values
  pub known-kept : (u : List Value) (e : Assignment) → AgreeOnSeen seen o.params (bind fresh u e) e
  known-kept u e = (Each-Among (λ (s : Var). stands_in_one seen s ≡ true → bind fresh u e s.slot ≡ e s.slot) o.params).1 (λ s m h.
      bind-past fresh u e s.slot (new-slot seen b o.params s m ∙ known-not-new seen b s h))

  -- what is known after the bound was known before it
  pub known-before : (d e : Assignment) → AgreeOnSeen (seen ++ b ∷ []) o.params d e → AgreeOnSeen seen o.params d e
  known-before d e k = (Each-Among (λ (s : Var). stands_in_one seen s ≡ true → d s.slot ≡ e s.slot) o.params).1 (λ s m h.
      (Each-Among (λ (x : Var). stands_in_one (seen ++ b ∷ []) x ≡ true → d x.slot ≡ e x.slot) o.params).0 k s m (known-next seen b s h))

  -- where the two agree on the variables so far, the bound is as true of both
  bound-alike : (d e : Assignment) → AgreeOnSeen (seen ++ b ∷ []) o.params d e → bound_true (situation_of p w) d b ≡
      bound_true (situation_of p w) e b
  bound-alike d e k = bound-agrees (situation_of p w) b d e ((Each-Among (λ q. d q ≡ e q) (bound_slots b)).1 (λ q m.
      let s = slot-out o.params q ((Each-Among (λ x. IsTrue (is_slot_in (slots_of o.params) x)) (bound_slots b)).0 scope q m) in
      subst (λ (n : ℕ). d n ≡ e n) s.2
      ((Each-Among (λ (x : Var). stands_in_one (seen ++ b ∷ []) x ≡ true → d x.slot ≡ e x.slot) o.params).0 k s.0 s.1
      (stands-next seen b s.0 (stands-at (args_of b) q s.0 s.2 m)))))

  -- the values of the new variables in a row
  new-values : (t : List Value) (e : Assignment) → length t ≡ length o.params → AgreeOnSeen seen o.params (row_assignment o t) e →
      AgreeOnSeen (seen ++ b ∷ []) o.params (row_assignment o t) (bind fresh (copied fresh (row_assignment o t)) e)
  new-values t e n k = (Each-Among (λ (s : Var). stands_in_one (seen ++ b ∷ []) s ≡ true → row_assignment o t s.slot ≡
      bind fresh (copied fresh (row_assignment o t)) e s.slot) o.params).1 (λ s m h.
      (elim (is_new seen b s) as (λ x. is_new seen b s ≡ x → row_assignment o t s.slot ≡
      bind fresh (copied fresh (row_assignment o t)) e s.slot) [
        | true ↦ λ z. sym (copy-at fresh (row_assignment o t) e s.slot (bound-some o.params t no_values s.slot n (slot-in o.params s m))
            (new-slot seen b o.params s m ∙ z))
        | false ↦ λ z. (Each-Among (λ (x : Var). stands_in_one seen x ≡ true → row_assignment o t x.slot ≡ e x.slot) o.params).0 k s m
            (new-or-known seen b s h z)
            ∙ sym (bind-past fresh (copied fresh (row_assignment o t)) e s.slot (new-slot seen b o.params s m ∙ z))
      ]) refl)

  -- a row completes the frame exactly where it completes it with a tuple of the bound put in
  pub completion-out : DifferInSlot fresh → OccurIn fresh b → (e : Assignment) (t : List Value) → IsCompletion p w o seen (b ∷ rest) e t →
      AtLeastOne (λ u. IsCompletion p w o (seen ++ b ∷ []) rest (bind fresh u e) t) (tuples (situation_of p w) e fresh b)
  completion-out d c e t h =
      let u = copied fresh (row_assignment o t) in
      let k = new-values t e h.arity h.agrees in
      let is : bound_true (situation_of p w) (bind fresh u e) b ≡ true = sym (bound-alike (row_assignment o t) (bind fresh u e) k) ∙
      h.bounds.0 in
      one_in (λ v. IsCompletion p w o (seen ++ b ∷ []) rest (bind fresh v e) t) u (tuples (situation_of p w) e fresh b)
      ((all-tuples (situation_of p w) e fresh b d c u).1 (length-map fresh (λ (s : Var). value_or (row_assignment o t s.slot)), is))
      (record { arity = h.arity; agrees = k; bounds = h.bounds.1 })

  pub completion-in : DifferInSlot fresh → OccurIn fresh b → (e : Assignment) (t u : List Value) →
      Among u (tuples (situation_of p w) e fresh b) → IsCompletion p w o (seen ++ b ∷ []) rest (bind fresh u e) t →
      IsCompletion p w o seen (b ∷ rest) e t
  completion-in d c e t u m h =
      let is = ((all-tuples (situation_of p w) e fresh b d c u).0 m).1 in
      record {
        arity = h.arity;
        agrees = (Each-Among (λ (s : Var). stands_in_one seen s ≡ true → row_assignment o t s.slot ≡ e s.slot) o.params).1 (λ s n k.
            (Each-Among (λ (x : Var). stands_in_one seen x ≡ true → row_assignment o t x.slot ≡ bind fresh u e x.slot) o.params).0
            (known-before (row_assignment o t) (bind fresh u e) h.agrees) s n k
            ∙ (Each-Among (λ (x : Var). stands_in_one seen x ≡ true → bind fresh u e x.slot ≡ e x.slot) o.params).0 (known-kept u e) s n k);
        bounds = (bound-alike (row_assignment o t) (bind fresh u e) h.agrees ∙ is, h.bounds);
      }

  -- a bound without a new variable that is true of the frame is passed by the same rows
  pub completion-past : fresh ≡ [] → (e : Assignment) → bound_true (situation_of p w) e b ≡ true → (t : List Value) →
      IsCompletion p w o seen (b ∷ rest) e t ↔ IsCompletion p w o (seen ++ b ∷ []) rest e t
  completion-past z e is t = (
    λ h. record { arity = h.arity; agrees = old-values t e z h.arity h.agrees; bounds = h.bounds.1 },
    λ h. record {
      arity = h.arity;
      agrees = known-before (row_assignment o t) e h.agrees;
      bounds =
          (bound-alike (row_assignment o t) e h.agrees ∙ is, h.bounds);
    },
  )
    where
      old-values : (t : List Value) (e : Assignment) → fresh ≡ [] → length t ≡ length o.params →
          AgreeOnSeen seen o.params (row_assignment o t) e → AgreeOnSeen (seen ++ b ∷ []) o.params (row_assignment o t) e
      old-values t e z n k = subst (λ (ss : List Var). AgreeOnSeen (seen ++ b ∷ []) o.params (row_assignment o t)
          (bind ss (copied ss (row_assignment o t)) e)) z (new-values t e n k)

  -- and one that is false of it by none
  pub completion-none : fresh ≡ [] → (e : Assignment) → bound_true (situation_of p w) e b ≡ false → (t : List Value) →
      ¬ IsCompletion p w o seen (b ∷ rest) e t
  completion-none z e is t h =
      let k = subst (λ (ss : List Var). AgreeOnSeen (seen ++ b ∷ []) o.params (row_assignment o t)
      (bind ss (copied ss (row_assignment o t)) e)) z (new-values t e h.arity h.agrees) in
      true≢false (sym h.bounds.0 ∙ (bound-alike (row_assignment o t) e k ∙ is))

-- frames that agree on what is known are completed by the same rows
pub completion-alike : (p : PlainProblem) (w : World) (o : PlainOperator) (seen rest : List Bound) (d e : Assignment) (t : List Value) →
    AgreeOnSeen seen o.params d e → IsCompletion p w o seen rest d t → IsCompletion p w o seen rest e t
completion-alike p w o seen rest d e t k h = record {
  arity = h.arity;
  agrees = (Each-Among (λ (s : Var). stands_in_one seen s ≡ true → row_assignment o t s.slot ≡ e s.slot) o.params).1 (λ s m z.
      (Each-Among (λ (x : Var). stands_in_one seen x ≡ true → row_assignment o t x.slot ≡ d x.slot) o.params).0 h.agrees s m z
      ∙ (Each-Among (λ (x : Var). stands_in_one seen x ≡ true → d x.slot ≡ e x.slot) o.params).0 k s m z);
  bounds = h.bounds;
}
