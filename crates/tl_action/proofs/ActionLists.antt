-- The actions of operators one after another.
use Rattle.std.proofs.Common.{◌≡◌, ◌↔◌, ◌<◌, ◌≤◌, ◌+◌, ℕ, zero, suc, List, [], ◌∷◌, ◌++◌, map, length, slice_get, Bool, true, false}
use Rattle.std.proofs.Common.{true≢false, cond, ◌==◌, ◌&&◌, Option, Some, None, is_some, Less, Equal, Ordering, inl, inr, refl, sym, ap}
use Rattle.std.proofs.Common.{◌∙◌, subst, arith, eqb-true}
use Rattle.std.proofs.lemmas.Bool.{eq-eqb}
use Rattle.std.specs.Cmp.{nat_cmp_is}
use Rattle.std.specs.List.{list_all}
use Rattle.std.specs.Ordering.{nat_cmp, ordering_then}
use Rattle.tl_eval.specs.declared.fault.EvalFault.{EvalFault}
use Rattle.tl_eval.specs.declared.fault.EvalFault.TheVariants as fault
use Rattle.tl_action.specs.Actions.{action_of, AreActions, HasOperator, IsCausedBySome}
use Rattle.tl_action.specs.Join.{AgreeOnSeen, row_assignment, IsFound, IsRowFault}
use Rattle.tl_action.specs.Prepared.{is_prepared, instances_of, looked_prepared}
use Rattle.tl_action.specs.RowLists.{AreRowsOf}
use Rattle.tl_action.proofs.AppliedOperators.{looked-is}
use Rattle.tl_eval.specs.Notes.{Tells}
use Rattle.tl_eval.proofs.ReadingLaws.{less-or-same}
use Rattle.tl_syntax.specs.declared.action.Action.{Action}
use Rattle.tl_syntax.specs.declared.value.Value.{Value}
use Rattle.tl_syntax.specs.declared.variable.Var.{Var}
use Rattle.tl_syntax.specs.Assignment.{Assignment}
use Rattle.tl_syntax.specs.Lists.{Each, Among, Rises}
use Rattle.tl_syntax.proofs.ListLaws.{One-append, One-over, one_out, one_in, all-iff, Each-Among}
use Rattle.tl_terms.specs.Bounds.{bound_true}
use Rattle.tl_terms.specs.Definitions.{situation_of}
use Rattle.tl_terms.specs.Operations.{Operation}
use Rattle.tl_terms.specs.Orders.{action_cmp}
use Rattle.tl_terms.specs.Problem.{PlainOperator, PlainProblem}
use Rattle.tl_terms.specs.Step.{changed, applied, applied_if, step}
use Rattle.tl_terms.specs.World.{World}
use Rattle.tl_rows.specs.Plain.{row_cmp}

both : (a b : Bool) → (a && b) ≡ true → (a ≡ true) × (b ≡ true)
both true b h = (refl, h)
both false b h = absurd (true≢false (sym h))

with-both : (a b : Bool) → a ≡ true → b ≡ true → (a && b) ≡ true
with-both true b p q = q
with-both false b p q = p

nothing-known : (ss : List Var) (d e : Assignment) → AgreeOnSeen [] ss d e
nothing-known [] d e = tt
nothing-known (s ∷ ss) d e = (λ z. absurd (true≢false (sym z)), nothing-known ss d e)

some-of : {A : Type 0} (b : Bool) (x : A) → is_some (cond b (Some x) None) ≡ b
some-of true x = refl
some-of false x = refl

-- ---- an action by its operator

module _ (p : PlainProblem) (w : World) (o : PlainOperator) (op : ℕ) (there : slice_get p.operators op ≡ Some o) where
  some-is : (t : List Value) → is_some (step p w (action_of op t)) ≡ ((length t == length o.params) &&
      (list_all (bound_true (situation_of p w) (row_assignment o t)) o.bounds && is_prepared p w (row_assignment o t) o))
  unfolding step applied
  some-is t = ap (λ (x : Option PlainOperator). is_some (applied_if p w t x)) there ∙
      some-of ((length t == length o.params) && (list_all (bound_true (situation_of p w) (row_assignment o t)) o.bounds && is_prepared p w
      (row_assignment o t) o)) (changed w (instances_of p w (row_assignment o t) o))

  bounds-iff : (t : List Value) → Each (λ b. bound_true (situation_of p w) (row_assignment o t) b ≡ true) o.bounds ↔
      (list_all (bound_true (situation_of p w) (row_assignment o t)) o.bounds ≡ true)
  bounds-iff t = all-iff (λ b. bound_true (situation_of p w) (row_assignment o t) b ≡ true)
      (bound_true (situation_of p w) (row_assignment o t)) (λ b. (λ h. h, λ h. h)) o.bounds

  pub found-step : (e : Assignment) (t : List Value) → IsFound p w o [] o.bounds e t → is_some (step p w (action_of op t)) ≡ true
  found-step e t h = some-is t ∙ with-both _ _ (eq-eqb (length t) (length o.params) h.completes.arity)
      (with-both _ _ ((bounds-iff t).0 h.completes.bounds) h.prepared)

  pub step-found : (e : Assignment) (t : List Value) → is_some (step p w (action_of op t)) ≡ true → IsFound p w o [] o.bounds e t
  step-found e t h =
      let first = both _ _ (sym (some-is t) ∙ h) in
      let second = both _ _ first.1 in
      record {
        completes = record {
          arity = eqb-true (length t) (length o.params) first.0;
          agrees =
              nothing-known o.params (row_assignment o t) e;
          bounds = (bounds-iff t).1 second.0;
        };
        prepared = second.1;
      }

  pub row-cause : (e : Assignment) (x : EvalFault) → IsRowFault p w o [] o.bounds e x → IsCausedBySome p w x
  row-cause e (fault.Range note) h = (
    action_of op h.0,
    subst (λ (ls : List Operation). Tells ls note)
        (sym (looked-is p w (action_of op h.0) o there h.1.arity ∙ ap
        (λ (b : Bool). cond b (looked_prepared p w (row_assignment o h.0) o) []) ((bounds-iff h.0).0 h.1.bounds))) h.2,
  )
  row-cause e fault.NoMemory h = tt

-- ---- order

nat-less : (a b : ℕ) → a < b → nat_cmp a b ≡ Less
nat-less a b h = sym (nat_cmp_is a b Less h)

nat-same : (a : ℕ) → nat_cmp a a ≡ Equal
nat-same a = sym (nat_cmp_is a a Equal refl)

by-operator : (a b : Action) → a.op < b.op → action_cmp a b ≡ Less
by-operator a b h = ap (λ (x : Ordering). ordering_then x (row_cmp a.args b.args)) (nat-less a.op b.op h)

by-row : (op : ℕ) (t u : List Value) → row_cmp t u ≡ Less → action_cmp (action_of op t) (action_of op u) ≡ Less
by-row op t u h = ap (λ (x : Ordering). ordering_then x (row_cmp t u)) (nat-same op) ∙ h

before-all : (op : ℕ) (t : List Value) (ts : List (List Value)) → Each (λ u. row_cmp t u ≡ Less) ts →
    Each (λ b. action_cmp (action_of op t) b ≡ Less) (map (action_of op) ts)
before-all op t [] h = tt
before-all op t (u ∷ ts) h = (by-row op t u h.0, before-all op t ts h.1)

rows-rise : (op : ℕ) (ts : List (List Value)) → Rises row_cmp ts → Rises action_cmp (map (action_of op) ts)
rows-rise op [] h = tt
rows-rise op (t ∷ ts) h = (before-all op t ts h.0, rows-rise op ts h.1)

later-operator : (op : ℕ) (a : Action) (ts : List (List Value)) → a.op < op → Each (λ b. action_cmp a b ≡ Less) (map (action_of op) ts)
later-operator op a [] h = tt
later-operator op a (t ∷ ts) h = (by-operator a (action_of op t) h, later-operator op a ts h)

each-two : (P : Action → Type 0) (xs ys : List Action) → Each P xs → Each P ys → Each P (xs ++ ys)
each-two P [] ys h k = k
each-two P (x ∷ xs) ys h k = (h.0, each-two P xs ys h.1 k)

rises-two : (xs ys : List Action) → Rises action_cmp xs → Rises action_cmp ys →
    ((a : Action) → Among a xs → Each (λ b. action_cmp a b ≡ Less) ys) → Rises action_cmp (xs ++ ys)
rises-two [] ys h k l = k
rises-two (x ∷ xs) ys h k l = (each-two (λ b. action_cmp x b ≡ Less) xs ys h.0 (l x (inl refl)), rises-two xs ys h.1 k (λ a m. l a (inr m)))

-- ---- the actions so far

-- the list has the actions of the first k operators that have a step, in order
pub record ActionsSoFar (p : PlainProblem) (w : World) (k : ℕ) (found : List Action) : Type 0 where
  pub all : (a : Action) → Among a found ↔ ((a.op < k) × (is_some (step p w a) ≡ true))
  pub order : Rises action_cmp found

pub actions-begun : (p : PlainProblem) (w : World) (found : List Action) → found ≡ [] → ActionsSoFar p w 0 found
actions-begun p w found q = subst (ActionsSoFar p w 0) (sym q) (record
    { all = λ a. (λ m. absurd m, λ m. let l = m.0 in absurd (omega arith)); order = tt })

pub actions-on : (p : PlainProblem) (w : World) (k : ℕ) (o : PlainOperator) (e : Assignment) (rows : List (List Value))
    (found more : List Action) → slice_get p.operators k ≡ Some o → AreRowsOf p w o e rows → more ≡ found ++ map (action_of k) rows
    → ActionsSoFar p w k found → ActionsSoFar p w (k + 1) more
actions-on p w k o e rows found more there r q h = subst (ActionsSoFar p w (k + 1)) (sym q) (record {
  all = λ a.
      let split = One-append (λ y. y ≡ a) found (map (action_of k) rows) in (
        λ m. elim (split.0 m) [
          | inl n ↦ (let b = (h.all a).0 n in let l = b.0 in (omega arith, b.1))
          | inr n ↦ (let t = one_out (λ t. action_of k t ≡ a) rows ((One-over (λ y. y ≡ a) (action_of k) rows).0 n) in
              let same = ap (λ (y : Action). y.op) t.1.1 in (
                omega (arith, same),
                subst (λ (y : Action). is_some (step p w y) ≡ true) t.1.1
                    (found-step p w o k there e t.0 ((r.all t.0).0 t.1.0)),
              ))
        ],
        λ m. split.1 (elim (less-or-same a.op k (let l = m.0 in omega arith)) [
          | inl l ↦ inl ((h.all a).1 (l, m.1))
          | inr s ↦ inr ((One-over (λ y. y ≡ a) (action_of k) rows).1 (
              let is : action_of k a.args ≡ a = λ i. record { op = sym s i; args = a.args } in
              one_in (λ t. action_of k t ≡ a) a.args rows ((r.all a.args).1
              (step-found p w o k there e a.args (subst (λ (y : Action). is_some (step p w y) ≡ true) (sym is) m.1))) is))
        ]),
      );
  order = rises-two found (map (action_of k) rows) h.order (rows-rise k rows r.order) (λ a m. later-operator k a rows ((h.all a).0 m).0);
})

got-below : {A : Type 0} (xs : List A) (i : ℕ) (x : A) → slice_get xs i ≡ Some x → i < length xs
got-below [] i x q = absurd (let z : ⊥ = cc in z)
got-below (y ∷ xs) zero x q = omega arith
got-below (y ∷ xs) (suc i) x q = let k = got-below xs i x q in omega arith

got-mapped : {A B : Type 0} (f : A → B) (xs : List A) (i : ℕ) (x : A) → slice_get xs i ≡ Some x → slice_get (map f xs) i ≡ Some (f x)
got-mapped f [] i x q = absurd (let z : ⊥ = cc in z)
got-mapped f (y ∷ xs) zero x q = let e : y ≡ x = cc in ap (λ z. Some (f z)) e
got-mapped f (y ∷ xs) (suc i) x q = got-mapped f xs i x q

-- the operator of an action with a step
pub step-operator : (p : PlainProblem) (w : World) (a : Action) → is_some (step p w a) ≡ true → (o : PlainOperator) ×
    (slice_get p.operators a.op ≡ Some o)
unfolding step
step-operator p w a h = by (slice_get p.operators a.op) refl h
  where
    by : (x : Option PlainOperator) → slice_get p.operators a.op ≡ x → is_some (applied_if p w a.args x) ≡ true → (o : PlainOperator) ×
        (slice_get p.operators a.op ≡ Some o)
    by (Some o) q h = (o, q)
    by None q h = absurd (true≢false (sym h))

pub step-below : (p : PlainProblem) (w : World) (a : Action) → is_some (step p w a) ≡ true → a.op < length p.operators
step-below p w a h = let o = step-operator p w a h in got-below p.operators a.op o.0 o.1

pub step-fits : (p : PlainProblem) (w : World) (a : Action) → is_some (step p w a) ≡ true → HasOperator p a
step-fits p w a h =
    let o = step-operator p w a h in
    let k = step-found p w o.0 a.op o.1 (λ q. None) a.args h in
    got-mapped (λ x. length x.params) p.operators a.op o.0 o.1 ∙ ap (λ (n : ℕ). Some n) (sym k.completes.arity)

pub actions-all : (p : PlainProblem) (w : World) (k : ℕ) (found : List Action) → length p.operators ≤ k → ActionsSoFar p w k found →
    AreActions p w found
actions-all p w k found all h a = (
  λ m. ((h.all a).0 m).1,
  λ s. let l = step-below p w a s in (h.all a).1 (omega arith, s),
)

pub actions-fit : (p : PlainProblem) (w : World) (k : ℕ) (found : List Action) → ActionsSoFar p w k found → Each (HasOperator p) found
actions-fit p w k found h = (Each-Among (HasOperator p) found).1 (λ a m. step-fits p w a ((h.all a).0 m).1)
