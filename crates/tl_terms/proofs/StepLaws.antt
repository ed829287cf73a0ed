-- The next world in the words of membership.
use Rattle.std.proofs.Common.{◌≡◌, ◌⊎◌, ◌↔◌, List, [], ◌∷◌, flat_map, length, slice_get, Bool, true, false, true≢false, cond, not, ◌==◌}
use Rattle.std.proofs.Common.{◌&&◌, ◌||◌, Option, Some, None, inl, inr, refl, sym, ap, subst, ◌∙◌}
use Rattle.std.proofs.lemmas.Bool.{eqb-true, eq-eqb}
use Rattle.std.specs.List.{list_any, list_all}
use Rattle.std.specs.FinSet as set
use Rattle.std.specs.FinMap as dict
use Rattle.std.specs.Ordering.{eq_by_cmp, is_eq}
use Rattle.tl_syntax.specs.Assignment.{Assignment, no_values, bind}
use Rattle.tl_terms.specs.Bounds.{bound_true}
use Rattle.tl_terms.specs.Definitions.{situation_of}
use Rattle.tl_terms.specs.LawsStep.{IsChange, IsStep}
use Rattle.tl_syntax.specs.Lists.{Each, Among}
use Rattle.tl_terms.specs.Problem.{PlainOperator, PlainProblem}
use Rattle.tl_terms.specs.Situation.{Situation}
use Rattle.tl_terms.specs.Step.{EffectInstance, all_instances, is_defined, added, deleted, given, without_all, with_all, overwritten}
use Rattle.tl_terms.specs.Step.{changed, applied, applied_if, step}
use Rattle.tl_syntax.specs.Keys.{agree, no_clash, Key, value_cmp, key_cmp}
use Rattle.tl_syntax.proofs.TotalOrders.{key_total}
use Rattle.tl_terms.specs.Truth.{state_true}
use Rattle.tl_terms.specs.World.{World, has_fact, value_at}
use Rattle.tl_terms.proofs.KeyLaws.{key-is, key-itself, value-is, value-itself, key-among}
use Rattle.tl_syntax.proofs.ListLaws.{iff-trans, iff-path, iff-sym, One-flat, one_out, one_in, and-iff, or-iff, not-iff, all-iff}
use Rattle.tl_syntax.proofs.ListLaws.{Each-Among, same_test}
use Rattle.tl_terms.proofs.WorldLaws.{same_world}
use Rattle.tl_syntax.specs.declared.value.Value.{Value}
use Rattle.tl_syntax.specs.declared.action.Action.{Action}

contains-with_all : (s : set.FinSet key_cmp) (ks : List Key) (q : Key) → set.contains (with_all s ks) q ≡
    (list_any (eq_by_cmp key_cmp q) ks || set.contains s q)
contains-with_all s [] q = refl
contains-with_all s (k ∷ ks) q = set.contains-insert key_total (with_all s ks) k q ∙
    (ap (λ b. eq_by_cmp key_cmp q k || b) (contains-with_all s ks q) ∙ regroup (eq_by_cmp key_cmp q k) _ _)
  where
    regroup : (a b c : Bool) → (a || (b || c)) ≡ ((a || b) || c)
    regroup true b c = refl
    regroup false b c = refl

contains-without_all : (s : set.FinSet key_cmp) (ks : List Key) (q : Key) → set.contains (without_all s ks) q ≡
    (not (list_any (eq_by_cmp key_cmp q) ks) && set.contains s q)
contains-without_all s [] q = refl
contains-without_all s (k ∷ ks) q = set.contains-remove key_total (without_all s ks) k q ∙
    (ap (λ b. not (eq_by_cmp key_cmp q k) && b) (contains-without_all s ks q) ∙ regroup (eq_by_cmp key_cmp q k) _ _)
  where
    regroup : (a b c : Bool) → (not a && (not b && c)) ≡ (not (a || b) && c)
    regroup true b c = refl
    regroup false b c = refl

-- the facts of the next world are those added, and those that were there and are not deleted
pub has_fact-changed : (w : World) (cs : List EffectInstance) (q : Key)
    → has_fact (changed w cs) q ≡ (list_any (eq_by_cmp key_cmp q) (flat_map added cs) ||
    (not (list_any (eq_by_cmp key_cmp q) (flat_map deleted cs)) && has_fact w q))
unfolding changed
has_fact-changed w cs q =
    contains-with_all (without_all w.facts (flat_map deleted cs)) (flat_map added cs) q
    ∙ ap (λ b. list_any (eq_by_cmp key_cmp q) (flat_map added cs) || b) (contains-without_all w.facts (flat_map deleted cs) q)

-- the first value that a list gives the place, and else its old one
abbrev pub given_or : List (Key × Value) → Key → Option Value → Option Value
given_or [] q old = old
given_or (p ∷ ps) q old = cond (eq_by_cmp key_cmp q p.0) (Some p.1) (given_or ps q old)

get-overwritten : (m : dict.FinMap key_cmp Value) (ps : List (Key × Value)) (q : Key) → dict.get (overwritten m ps) q ≡
    given_or ps q (dict.get m q)
get-overwritten m [] q = refl
get-overwritten m (p ∷ ps) q = dict.get-insert key_total (overwritten m ps) p.0 p.1 q ∙
    ap (λ o. cond (eq_by_cmp key_cmp q p.0) (Some p.1) o) (get-overwritten m ps q)

pub value_at-changed : (w : World) (cs : List EffectInstance) (q : Key) → value_at (changed w cs) q ≡
    given_or (flat_map given cs) q (value_at w q)
unfolding changed
value_at-changed w cs q = get-overwritten w.places (flat_map given cs) q

-- ---- facts and places of the next world

fact-iff : (w : World) (cs : List EffectInstance) (k : Key)
    → (Among k (flat_map added cs) ⊎ ((Among k (flat_map deleted cs) → ⊥) × (has_fact w k ≡ true))) ↔ (has_fact (changed w cs) k ≡ true)
fact-iff w cs k =
    iff-trans (or-iff (key-among k (flat_map added cs)) (and-iff (not-iff (key-among k (flat_map deleted cs))) (λ h. h, λ h. h)))
    (iff-path (λ b. b ≡ true) (sym (has_fact-changed w cs k)))

-- ---- places

-- a list gives the place a value, and the first one that it gives; or it gives none
given-cases : (ps : List (Key × Value)) (k : Key) (old : Option Value)
    → ((a : Value) × Among (k, a) ps × (given_or ps k old ≡ Some a)) ⊎ (((a : Value) → Among (k, a) ps → ⊥) × (given_or ps k old ≡ old))
given-cases [] k old = inr (λ a h. h, refl)
given-cases (x ∷ ps) k old = (elim (eq_by_cmp key_cmp k x.0) as (λ b. eq_by_cmp key_cmp k x.0 ≡ b →
    ((a : Value) × Among (k, a) (x ∷ ps) × (cond b (Some x.1) (given_or ps k old) ≡ Some a)) ⊎
    (((a : Value) → Among (k, a) (x ∷ ps) → ⊥) × (cond b (Some x.1) (given_or ps k old) ≡ old))) [
      | true ↦ λ q. inl (x.1, inl (let e : x.0 ≡ k = key-is k x.0 q in λ i. (e i, x.1)), refl)
      | false ↦ λ q. elim (given-cases ps k old) [
        | inl w ↦ inl (w.0, inr w.1, w.2)
        | inr n ↦ inr (
          λ a. elim [
            | inl e ↦ absurd (true≢false (sym (key-itself k x.0 (ap (λ (y : Key × Value). y.0) e)) ∙ q))
            | inr m ↦ n.0 a m
          ],
          n.1,
        )
      ]
    ]) refl

-- no two of the list give one place different values
abbrev pub OneValue : List (Key × Value) → Type 0
OneValue ps = (k : Key) (a b : Value) → Among (k, a) ps → Among (k, b) ps → a ≡ b

agree-iff : (x y : Key × Value) → (x.0 ≡ y.0 → x.1 ≡ y.1) ↔ (agree x y ≡ true)
agree-iff x y = (elim (is_eq (key_cmp x.0 y.0)) as (λ b. is_eq (key_cmp x.0 y.0) ≡ b → (x.0 ≡ y.0 → x.1 ≡ y.1) ↔
    ((not b || is_eq (value_cmp x.1 y.1)) ≡ true)) [
      | true ↦ λ q. (λ h. value-itself x.1 y.1 (h (sym (key-is x.0 y.0 q))), λ h _. value-is x.1 y.1 h)
      | false ↦ λ q. (λ _. refl, λ _ e. absurd (true≢false (sym (key-itself x.0 y.0 (sym e)) ∙ q)))
    ]) refl

pub no_clash-iff : (ps : List (Key × Value)) → OneValue ps ↔ (no_clash ps ≡ true)
no_clash-iff ps =
    let inner : (x : Key × Value) → Each (λ y. x.0 ≡ y.0 → x.1 ≡ y.1) ps ↔ (list_all (agree x) ps ≡ true) = λ x.
    all-iff (λ y. x.0 ≡ y.0 → x.1 ≡ y.1) (agree x) (agree-iff x) ps in
    let outer = all-iff (λ x. Each (λ y. x.0 ≡ y.0 → x.1 ≡ y.1) ps) (λ x. list_all (agree x) ps) inner ps in (
      λ h. outer.0 ((Each-Among (λ x. Each (λ y. x.0 ≡ y.0 → x.1 ≡ y.1) ps) ps).1
          (λ x m. (Each-Among (λ y. x.0 ≡ y.0 → x.1 ≡ y.1) ps).1 (λ y n e. h y.0 x.1 y.1 (subst (λ k. Among (k, x.1) ps) e m) n))),
      λ h k a b m n. (Each-Among (λ y. k ≡ y.0 → a ≡ y.1) ps).0 ((Each-Among (λ x. Each (λ y. x.0 ≡ y.0 → x.1 ≡ y.1) ps) ps).0 (outer.1 h)
          (k, a) m) (k, b) n refl,
    )

-- ---- the change of a list of instances

is-change : (w : World) (cs : List EffectInstance) → list_all is_defined cs ≡ true → no_clash (flat_map given cs) ≡ true →
    IsChange w cs (changed w cs)
is-change w cs d n =
    let one : OneValue (flat_map given cs) = (no_clash-iff (flat_map given cs)).1 n in
    record {
      all_defined = (all-iff (λ c. is_defined c ≡ true) is_defined (λ c. (λ h. h, λ h. h)) cs).1 d;
      one_value = one;
      facts = λ k. iff-sym (fact-iff w cs k);
      set_places = λ k a m. value_at-changed w cs k ∙ elim (given-cases (flat_map given cs) k (value_at w k)) [
        | inl x ↦ x.2 ∙ ap (λ (u : Value). Some u) (one k x.0 a x.1 m)
        | inr x ↦ absurd (x.0 a m)
      ];
      other_places = λ k none. value_at-changed w cs k ∙ elim (given-cases (flat_map given cs) k (value_at w k)) [
        | inl x ↦ absurd (none x.0 x.1)
        | inr x ↦ x.1
      ];
    }

change-is : (w : World) (cs : List EffectInstance) (v : World) → IsChange w cs v → changed w cs ≡ v
change-is w cs v h = same_world (changed w cs) v
    (λ k. let f = iff-trans (iff-sym (fact-iff w cs k)) (iff-sym (h.facts k)) in
    same_test (has_fact (changed w cs) k) (has_fact v k) f.0 f.1)
    (λ k. value_at-changed w cs k ∙ elim (given-cases (flat_map given cs) k (value_at w k)) [
      | inl x ↦ x.2 ∙ sym (h.set_places k x.0 x.1)
      | inr x ↦ x.1 ∙ sym (h.other_places k x.0)
    ])

-- ---- the step

and-parts : (a b : Bool) → (a && b) ≡ true → (a ≡ true) × (b ≡ true)
and-parts true b h = (refl, h)
and-parts false b h = absurd (true≢false (sym h))

applied-exactly : (p : PlainProblem) (w : World) (o : PlainOperator) (a : Action) (v : World) → slice_get p.operators a.op ≡ Some o →
    applied p w o a.args ≡ Some v → IsStep p w a v
unfolding applied
applied-exactly p w o a v at e =
    let s : Situation = situation_of p w in
    let q : Assignment = bind o.params a.args no_values in
    let cs : List EffectInstance = all_instances s q o.effects in
    let t : Bool = (length a.args == length o.params) && (list_all (bound_true s q) o.bounds &&
    (state_true s q o.pre && (list_all is_defined cs && no_clash (flat_map given cs)))) in
    by_test t refl e
  where
    by_test : (b : Bool) → ((length a.args == length o.params) && (list_all
        (bound_true (situation_of p w) (bind o.params a.args no_values)) o.bounds &&
        (state_true (situation_of p w) (bind o.params a.args no_values) o.pre &&
        (list_all is_defined (all_instances (situation_of p w) (bind o.params a.args no_values) o.effects) && no_clash
        (flat_map given (all_instances (situation_of p w) (bind o.params a.args no_values) o.effects)))))) ≡ b
        → cond b (Some (changed w (all_instances (situation_of p w) (bind o.params a.args no_values) o.effects))) None ≡ Some v →
        IsStep p w a v
    by_test false h k = cc
    by_test true h k =
        let s : Situation = situation_of p w in
        let q : Assignment = bind o.params a.args no_values in
        let cs : List EffectInstance = all_instances s q o.effects in
        let h0 = and-parts (length a.args == length o.params) _ h in
        let h1 = and-parts (list_all (bound_true s q) o.bounds) _ h0.1 in
        let h2 = and-parts (state_true s q o.pre) _ h1.1 in
        let h3 = and-parts (list_all is_defined cs) (no_clash (flat_map given cs)) h2.1 in
        record {
          operator = o;
          exists = at;
          arity = eqb-true (length a.args) (length o.params) h0.0;
          bounds = (all-iff (λ b. bound_true s q b ≡ true) (bound_true s q) (λ b. (λ z. z, λ z. z)) o.bounds).1 h1.0;
          precondition = h2.0;
          effects = subst (IsChange w cs) (let z : changed w cs ≡ v = cc in z) (is-change w cs h3.0 h3.1);
        }

exactly-applied : (p : PlainProblem) (w : World) (a : Action) (v : World) (h : IsStep p w a v) → applied p w h.operator a.args ≡ Some v
unfolding applied
exactly-applied p w a v h =
    let s : Situation = situation_of p w in
    let q : Assignment = bind h.operator.params a.args no_values in
    let cs : List EffectInstance = all_instances s q h.operator.effects in
    let t0 : (length a.args == length h.operator.params) ≡ true = eq-eqb (length a.args) (length h.operator.params) h.arity in
    let t1 : list_all (bound_true s q) h.operator.bounds ≡ true = (all-iff (λ b. bound_true s q b ≡ true) (bound_true s q)
    (λ b. (λ z. z, λ z. z)) h.operator.bounds).0 h.bounds in
    let t3 : list_all is_defined cs ≡ true = (all-iff (λ c. is_defined c ≡ true) is_defined (λ c. (λ z. z, λ z. z)) cs).0
    h.effects.all_defined in
    let t4 : no_clash (flat_map given cs) ≡ true = (no_clash-iff (flat_map given cs)).0 h.effects.one_value in
    ap (λ b. cond b (Some (changed w cs)) None) (all_five t0 t1 h.precondition t3 t4) ∙
    ap (λ (x : World). Some x) (change-is w cs v h.effects)
  where
    all_five : {b0 b1 b2 b3 b4 : Bool} → b0 ≡ true → b1 ≡ true → b2 ≡ true → b3 ≡ true → b4 ≡ true → (b0 && (b1 && (b2 && (b3 && b4)))) ≡
        true
    all_five {b0} {b1} {b2} {b3} {b4} e0 e1 e2 e3 e4 = rw (e0, e1, e2, e3, e4) refl

-- a step in the words of membership
pub step-exactly : (p : PlainProblem) (w : World) (a : Action) (v : World) → (step p w a ≡ Some v) ↔ IsStep p w a v
unfolding step
step-exactly p w a v = (
  λ e. by_operator (slice_get p.operators a.op) refl e,
  λ h. ap (applied_if p w a.args) h.exists ∙ exactly-applied p w a v h,
)
  where
    by_operator : (o : Option PlainOperator) → slice_get p.operators a.op ≡ o → applied_if p w a.args o ≡ Some v → IsStep p w a v
    by_operator None at e = cc
    by_operator (Some o) at e = applied-exactly p w o a v at e

-- ---- the order of instances

flat-same : {A : Type 0} (f : EffectInstance → List A) (cs ds : List EffectInstance) → ((c : EffectInstance) → Among c cs → Among c ds) →
    (x : A) → Among x (flat_map f cs) → Among x (flat_map f ds)
flat-same f cs ds same x h =
    let w = one_out (λ c. Among x (f c)) cs ((One-flat (λ y. y ≡ x) f cs).0 h) in
    (One-flat (λ y. y ≡ x) f ds).1 (one_in (λ c. Among x (f c)) w.0 ds (same w.0 w.1.0) w.1.1)

-- where none clash, the next world depends on the set of instances alone
pub order-free : (w : World) (cs ds : List EffectInstance) → no_clash (flat_map given cs) ≡ true →
    ((c : EffectInstance) → Among c cs ↔ Among c ds) → changed w cs ≡ changed w ds
order-free w cs ds n same = same_world (changed w cs) (changed w ds)
    (λ k. same_test (has_fact (changed w cs) k) (has_fact (changed w ds) k)
    (λ h. (fact-iff w ds k).0 (over_facts cs ds (λ c. (same c).0) (λ c. (same c).1) k ((fact-iff w cs k).1 h)))
    (λ h. (fact-iff w cs k).0 (over_facts ds cs (λ c. (same c).1) (λ c. (same c).0) k ((fact-iff w ds k).1 h))))
    (λ k. value_at-changed w cs k ∙ (places k ∙ sym (value_at-changed w ds k)))
  where
    over_facts : (xs ys : List EffectInstance) → ((c : EffectInstance) → Among c xs → Among c ys) →
        ((c : EffectInstance) → Among c ys → Among c xs) → (k : Key)
        → (Among k (flat_map added xs) ⊎ ((Among k (flat_map deleted xs) → ⊥) × (has_fact w k ≡ true))) →
        (Among k (flat_map added ys) ⊎ ((Among k (flat_map deleted ys) → ⊥) × (has_fact w k ≡ true)))
    over_facts xs ys to from k = elim [
      | inl m ↦ inl (flat-same added xs ys to k m)
      | inr h ↦ inr
          (λ m. h.0 (flat-same deleted ys xs from k m), h.1)
    ]

    places : (k : Key) → given_or (flat_map given cs) k (value_at w k) ≡ given_or (flat_map given ds) k (value_at w k)
    places k = elim (given-cases (flat_map given cs) k (value_at w k)) [
      | inl x ↦ elim (given-cases (flat_map given ds) k (value_at w k)) [
        | inl y ↦ x.2 ∙ (ap (λ (u : Value). Some u) ((no_clash-iff (flat_map given cs)).1 n k x.0 y.0 x.1
            (flat-same given ds cs (λ c. (same c).1) (k, y.0) y.1)) ∙ sym y.2)
        | inr y ↦ absurd (y.0 x.0 (flat-same given cs ds (λ c. (same c).0) (k, x.0) x.1))
      ]
      | inr x ↦ elim (given-cases (flat_map given ds) k (value_at w k)) [
        | inl y ↦ absurd (x.0 y.0 (flat-same given ds cs (λ c. (same c).1) (k, y.0) y.1))
        | inr y ↦ x.1 ∙ sym y.1
      ]
    ]
