-- The rows that are found, one by one.
use Rattle.std.proofs.Common.{◌≡◌, ◌↔◌, ◌⊎◌, ℕ, suc, List, [], ◌∷◌, ◌++◌, filter, length, Bool, true, false, cond, ◌==◌, Option, Some, None}
use Rattle.std.proofs.Common.{IsTrue, inl, inr, refl, sym, ap, ◌∙◌, subst, arith, eqb-true}
use Rattle.std.proofs.lemmas.Bool.{eq-eqb}
use Rattle.tl_eval.specs.declared.fault.EvalFault.{EvalFault}
use Rattle.tl_eval.specs.declared.fault.EvalFault.TheVariants as fault
use Rattle.tl_action.specs.Agreement.{Agree}
use Rattle.tl_eval.specs.Faults.{IsCausedBy}
use Rattle.tl_action.specs.Join.{stands_in_one, is_new, variables, AgreeOnSeen, row_assignment, IsCompletion, IsFound, IsRowFault}
use Rattle.tl_action.specs.Prepared.{is_prepared, looked_prepared}
use Rattle.tl_action.proofs.Completions.{known-through, completion-out, completion-in, completion-alike}
use Rattle.tl_action.proofs.Operators.{operator-agrees}
use Rattle.tl_eval.specs.Notes.{Tells}
use Rattle.tl_syntax.specs.declared.bound.Bound.{Bound}
use Rattle.tl_syntax.specs.declared.operator.Operator.{Operator}
use Rattle.tl_syntax.specs.declared.value.Value.{Value}
use Rattle.tl_syntax.specs.declared.variable.Var.{Var}
use Rattle.tl_syntax.specs.Assignment.{Assignment, bind, no_values}
use Rattle.tl_syntax.specs.BoundVariables.{DifferInSlot, OccurIn}
use Rattle.tl_syntax.specs.FreeVariables.{slots_of, bound_slots, InScope}
use Rattle.tl_syntax.specs.Kept.{OperatorKeeps}
use Rattle.tl_syntax.specs.Lists.{Each, AtLeastOne, Among}
use Rattle.tl_syntax.specs.Signature.{Signature}
use Rattle.tl_syntax.proofs.ListLaws.{Each-over, One-append, one_out, one_in}
use Rattle.tl_terms.specs.Bounds.{tuples}
use Rattle.tl_terms.specs.Definitions.{situation_of}
use Rattle.tl_terms.specs.Operations.{Operation}
use Rattle.tl_terms.specs.Problem.{PlainOperator, PlainProblem}
use Rattle.tl_terms.specs.ProblemMeaning.{plain_operator}
use Rattle.tl_terms.specs.Terms.{prepend, term_values}
use Rattle.tl_terms.specs.World.{World}

-- ---- the row of a frame

equal-slots : (n : ℕ) → (n == n) ≡ true
equal-slots n = eq-eqb n n refl

other-slot : (n m : ℕ) → (n ≡ m → ⊥) → (n == m) ≡ false
other-slot n m h = (elim (n == m) as (λ b. (n == m) ≡ b → b ≡ false) [ true ↦ λ z. absurd (h (eqb-true n m z)) | false ↦ λ z. refl ]) refl

-- the other variables do not see the first one
behind : (s : Var) (v : Value) (ss us : List Var) (t : List Value) (d e : Assignment) → Each (λ u. u.slot ≡ s.slot → ⊥) us →
    Each (λ u. bind (s ∷ ss) (v ∷ t) d u.slot ≡ e u.slot) us ↔ Each (λ u. bind ss t d u.slot ≡ e u.slot) us
behind s v ss [] t d e h = (λ k. k, λ k. k)
behind s v ss (u ∷ us) t d e h =
    let same = ap (λ (b : Bool). cond b (Some v) (bind ss t d u.slot)) (other-slot u.slot s.slot h.0) in
    let more = behind s v ss us t d e h.1 in
    (λ k. (sym same ∙ k.0, more.0 k.1), λ k. (same ∙ k.0, more.1 k.1))

pub values-of-row : (w : World) (e d : Assignment) (ss : List Var) (t : List Value) → DifferInSlot ss → length t ≡ length ss →
    Each (λ s. bind ss t d s.slot ≡ e s.slot) ss → term_values w e (variables ss) ≡ Some t
unfolding term_values
values-of-row w e d [] [] q n h = refl
values-of-row w e d [] (v ∷ t) q n h = absurd (omega arith)
values-of-row w e d (s ∷ ss) [] q n h = absurd (omega arith)
values-of-row w e d (s ∷ ss) (v ∷ t) q n h =
    let first : e s.slot ≡ Some v = sym h.0 ∙ ap (λ (b : Bool). cond b (Some v) (bind ss t d s.slot)) (equal-slots s.slot) in
    let others = values-of-row w e d ss t q.1 (omega (arith, n)) ((behind s v ss ss t d e q.0).0 h.1) in
    λ i. prepend (first i) (others i)

pub prepend-parts : (o : Option Value) (r : Option (List Value)) (t : List Value) → prepend o r ≡ Some t → (v : Value) × (us : List Value) ×
    (o ≡ Some v) × (r ≡ Some us) × (t ≡ v ∷ us)
prepend-parts (Some v) (Some us) t q = let e : v ∷ us ≡ t = cc in (v, us, refl, refl, sym e)
prepend-parts (Some v) None t q = absurd (let z : ⊥ = cc in z)
prepend-parts None r t q = absurd (let z : ⊥ = cc in z)

-- a row is as long as the variables, and agrees with a frame
pub record RowAgrees (e d : Assignment) (ss : List Var) (t : List Value) : Type 0 where
  pub arity : length t ≡ length ss
  pub agrees : Each (λ s. bind ss t d s.slot ≡ e s.slot) ss

pub row-agrees : (w : World) (e d : Assignment) (ss : List Var) (t : List Value) → DifferInSlot ss → term_values w e (variables ss) ≡
    Some t → RowAgrees e d ss t
unfolding term_values
row-agrees w e d [] t q h = let k : [] ≡ t = cc in record { arity = ap (λ (x : List Value). length x) (sym k); agrees = tt }
row-agrees w e d (s ∷ ss) t q h =
    let parts = prepend-parts (e s.slot) (term_values w e (variables ss)) t h in
    let v = parts.0 in
    let us = parts.1 in
    let others = row-agrees w e d ss us q.1 parts.3 in
    subst (RowAgrees e d (s ∷ ss)) (sym parts.4) (record {
      arity = ap suc others.arity;
      agrees = (
        ap (λ (b : Bool). cond b (Some v) (bind ss us d s.slot)) (equal-slots s.slot) ∙ sym parts.2,
        (behind s v ss ss us d e q.0).1 others.agrees,
      );
    })

known-all : (bounds : List Bound) (ss : List Var) (d e : Assignment) → Each (λ s. IsTrue (stands_in_one bounds s)) ss →
    AgreeOnSeen bounds ss d e → Each (λ s. d s.slot ≡ e s.slot) ss
known-all bounds [] d e h k = tt
known-all bounds (s ∷ ss) d e h k = (k.0 h.0, known-all bounds ss d e h.1 k.1)

pub all-known : (bounds : List Bound) (ss : List Var) (d e : Assignment) → Each (λ s. d s.slot ≡ e s.slot) ss → AgreeOnSeen bounds ss d e
all-known bounds [] d e h = tt
all-known bounds (s ∷ ss) d e h = (λ z. h.0, all-known bounds ss d e h.1)

pub known-agree : (bounds : List Bound) (ss : List Var) (d e : Assignment) → Agree (slots_of ss) d e → AgreeOnSeen bounds ss d e
known-agree bounds ss d e h = all-known bounds ss d e ((Each-over (λ (q : ℕ). d q ≡ e q) (λ (s : Var). s.slot) ss).0 h)

-- ---- no bound is left

module _ (g : Signature) (n : ℕ) (p : PlainProblem) (w : World) (o : Operator) (keeps : OperatorKeeps g n o)
    (differ : DifferInSlot o.params) (e : Assignment) where
  abbrev pub all : List Bound
  all = o.bounds

  pub completion-row : (t : List Value) → IsCompletion p w (plain_operator o) all [] e t → term_values w e (variables o.params) ≡ Some t
  completion-row t h = values-of-row w e no_values o.params t differ h.arity
      (known-all all o.params (row_assignment (plain_operator o) t) e keeps.bounded h.agrees)

  pub row-completion : (t : List Value) → term_values w e (variables o.params) ≡ Some t → IsCompletion p w (plain_operator o) all [] e t
  row-completion t h = let k = row-agrees w e no_values o.params t differ h in
      record { arity = k.arity; agrees = all-known all o.params (row_assignment (plain_operator o) t) e k.agrees; bounds = tt }

  row-frame : (t : List Value) → term_values w e (variables o.params) ≡ Some t →
      Agree (slots_of o.params) e (row_assignment (plain_operator o) t)
  row-frame t h = let k = row-agrees w e no_values o.params t differ h in
      (Each-over (λ (q : ℕ). e q ≡ row_assignment (plain_operator o) t q) (λ (s : Var). s.slot) o.params).1 (turned o.params k.agrees)
    where
      turned : (ss : List Var) → Each (λ s. row_assignment (plain_operator o) t s.slot ≡ e s.slot) ss →
          Each (λ s. e s.slot ≡ row_assignment (plain_operator o) t s.slot) ss
      turned [] h = tt
      turned (s ∷ ss) h = (sym h.0, turned ss h.1)

  pub row-found : (t : List Value) → term_values w e (variables o.params) ≡ Some t → is_prepared p w e (plain_operator o) ≡ true →
      IsFound p w (plain_operator o) all [] e t
  row-found t h k = record {
    completes = row-completion t h;
    prepared =
        sym (operator-agrees g n p w o e (row_assignment (plain_operator o) t) keeps (row-frame t h)).prepared ∙ k;
  }

  pub found-row : (t : List Value) → IsFound p w (plain_operator o) all [] e t → (term_values w e (variables o.params) ≡ Some t) ×
      (is_prepared p w e (plain_operator o) ≡ true)
  found-row t h = let r = completion-row t h.completes in (
    r,
    (operator-agrees g n p w o e (row_assignment (plain_operator o) t) keeps
        (row-frame t r)).prepared ∙ h.prepared,
  )

  pub row-fault : (t : List Value) (x : EvalFault) → term_values w e (variables o.params) ≡ Some t →
      IsCausedBy (looked_prepared p w e (plain_operator o)) x → IsRowFault p w (plain_operator o) all [] e x
  row-fault t (fault.Range note) h k = (
    t,
    row-completion t h,
    subst (λ (ls : List Operation). Tells ls note)
        (operator-agrees g n p w o e (row_assignment (plain_operator o) t) keeps (row-frame t h)).looked k,
  )
  row-fault t fault.NoMemory h k = tt

-- one row more
pub one-row : (P : List Value → Type 0) (before after : List (List Value)) (row : List Value) → after ≡ before ++ row ∷ [] → P row →
    ((t : List Value) → P t → t ≡ row) → (t : List Value) → Among t after ↔ (Among t before ⊎ P t)
one-row P before after row q h only t = (
  λ m. elim ((One-append (λ y. y ≡ t) before (row ∷ [])).0 (subst (Among t) q m)) [
    | inl k ↦ inl k
    | inr k ↦ elim
        k [ inl e ↦ inr (subst P e h) | inr z ↦ absurd z ]
  ],
  λ m. subst (Among t) (sym q) ((One-append (λ y. y ≡ t) before (row ∷ [])).1
      (elim m [ inl k ↦ inl k | inr k ↦ inr (inl (sym (only t k))) ])),
)

-- no row more
pub no-row : (P : List Value → Type 0) (before : List (List Value)) → ((t : List Value) → P t → ⊥) → (t : List Value) → Among t before ↔
    (Among t before ⊎ P t)
no-row P before never t = (λ m. inl m, λ m. elim m [ inl k ↦ k | inr k ↦ absurd (never t k) ])

-- ---- the tuples of a bound

-- the rows so far are those before and those that complete the frame with one of the tuples
abbrev pub RowsSoFar : PlainProblem → World → PlainOperator → List Bound → List Bound → Assignment → List Var → List (List Value) →
    List (List Value) → List (List Value) → Type 0
RowsSoFar p w o seen rest e vars us before now = (t : List Value) → Among t now ↔
    (Among t before ⊎ AtLeastOne (λ u. IsFound p w o seen rest (bind vars u e) t) us)

module _ (p : PlainProblem) (w : World) (o : PlainOperator) (seen : List Bound) (b : Bound) (rest : List Bound)
    (scope : InScope (slots_of o.params) (bound_slots b)) where
  abbrev pub fresh : List Var
  fresh = filter (is_new seen b) o.params

  found-alike : (d e : Assignment) (t : List Value) → AgreeOnSeen (seen ++ b ∷ []) o.params d e → IsFound p w o (seen ++ b ∷ []) rest d t →
      IsFound p w o (seen ++ b ∷ []) rest e t
  found-alike d e t k h = record { completes = completion-alike p w o (seen ++ b ∷ []) rest d e t k h.completes; prepared = h.prepared }

  known-sym : (ss : List Var) (d e : Assignment) → AgreeOnSeen seen ss d e → AgreeOnSeen seen ss e d
  known-sym [] d e h = tt
  known-sym (s ∷ ss) d e h = (λ z. sym (h.0 z), known-sym ss d e h.1)

  abbrev pub after : List Bound
  after = seen ++ b ∷ []

  -- one more tuple
  pub rows-on : (e c d : Assignment) (u : List Value) (us before now then : List (List Value)) → d ≡ bind fresh u c →
      AgreeOnSeen seen o.params c e → RowsSoFar p w o after rest e fresh us before now
      → ((t : List Value) → Among t then ↔ (Among t now ⊎ IsFound p w o after rest d t)) →
      RowsSoFar p w o after rest e fresh (us ++ u ∷ []) before then
  rows-on e c d u us before now then q k r j t =
      let there = λ (h : IsFound p w o after rest d t). found-alike (bind fresh u c) (bind fresh u e) t
      (known-through p w o seen b rest scope u c e k) (subst (λ (a : Assignment). IsFound p w o after rest a t) q h) in
      let back = λ (h : IsFound p w o after rest (bind fresh u e) t). subst (λ (a : Assignment). IsFound p w o after rest a t) (sym q)
      (found-alike (bind fresh u e) (bind fresh u c) t (known-through p w o seen b rest scope u e c (known-sym o.params c e k)) h) in
      let split = One-append (λ v. IsFound p w o after rest (bind fresh v e) t) us (u ∷ []) in (
        λ m. elim ((j t).0 m) [
          | inl n ↦ elim ((r t).0 n) [ inl a ↦ inl a | inr a ↦ inr (split.1 (inl a)) ]
          | inr f ↦ inr (split.1 (inr (inl (there f))))
        ],
        λ m. (j t).1 (elim m [
          | inl a ↦ inl ((r t).1 (inl a))
          | inr a ↦ elim (split.0 a) [ inl n ↦ inl ((r t).1 (inr n)) | inr n ↦ elim n [ inl f ↦ inr (back f) | inr z ↦ absurd z ] ]
        ]),
      )

  -- no tuple yet
  pub rows-begun : (e : Assignment) (before : List (List Value)) → RowsSoFar p w o after rest e fresh [] before before
  rows-begun e before t = (λ m. inl m, λ m. elim m [ inl k ↦ k | inr z ↦ absurd z ])

  -- all tuples
  pub rows-end : DifferInSlot fresh → OccurIn fresh b → (e : Assignment) (before now : List (List Value)) →
      RowsSoFar p w o after rest e fresh (tuples (situation_of p w) e fresh b) before now
      → (t : List Value) → Among t now ↔ (Among t before ⊎ IsFound p w o seen (b ∷ rest) e t)
  rows-end differ occur e before now r t =
      let ts = tuples (situation_of p w) e fresh b in
      let out = λ (h : IsFound p w o seen (b ∷ rest) e t).
      let k = one_out (λ u. IsCompletion p w o after rest (bind fresh u e) t) ts
      (completion-out p w o seen b rest scope differ occur e t h.completes) in
      one_in (λ u. IsFound p w o after rest (bind fresh u e) t) k.0 ts k.1.0 (record { completes = k.1.1; prepared = h.prepared }) in
      let within = λ (h : AtLeastOne (λ u. IsFound p w o after rest (bind fresh u e) t) ts).
      let k = one_out (λ u. IsFound p w o after rest (bind fresh u e) t) ts h in
      let f : IsFound p w o seen (b ∷ rest) e t = record {
        completes =
            completion-in p w o seen b rest scope differ occur e t k.0 k.1.0 k.1.1.completes;
        prepared = k.1.1.prepared;
      } in f in (
        λ m. elim ((r t).0 m) [ inl a ↦ inl a | inr a ↦ inr (within a) ],
        λ m. (r t).1 (elim m [ inl a ↦ inl a | inr a ↦ inr (out a) ]),
      )

  -- a fault for a tuple
  pub rows-fault : DifferInSlot fresh → OccurIn fresh b → (e c d : Assignment) (u : List Value) → d ≡ bind fresh u c →
      AgreeOnSeen seen o.params c e → Among u (tuples (situation_of p w) e fresh b) → (x : EvalFault) → IsRowFault p w o after rest d x →
      IsRowFault p w o seen (b ∷ rest) e x
  rows-fault differ occur e c d u q k m (fault.Range note) h =
      let there = completion-alike p w o after rest (bind fresh u c) (bind fresh u e) h.0 (known-through p w o seen b rest scope u c e k)
      (subst (λ (a : Assignment). IsCompletion p w o after rest a h.0) q h.1) in
      (h.0, completion-in p w o seen b rest scope differ occur e h.0 u m there, h.2)
  rows-fault differ occur e c d u q k m fault.NoMemory h = tt
