-- The tuples of a bound are all those that make it true.
use Rattle.std.proofs.Common.{is_some, ◌≡◌, ℕ, zero, suc, ◌⊎◌, ◌↔◌, List, [], ◌∷◌, map, flat_map, length, true, false, cond, ◌||◌}
use Rattle.std.proofs.Common.{true≢false, Some, None, refl, sym, ap, ◌∙◌, subst, inl, inr, arith}
use borrow.Author.Tests.{eq-eqb, eqb-true, ne_eqb}
use Rattle.std.specs.List.{list_any}
use Rattle.std.specs.FinSet as set
use Rattle.std.specs.FinMap as dict
use Rattle.std.specs.Ordering.{eq_by_cmp, is_eq}
use Rattle.std.specs.Cmp.{tied_itself, Equal-is}
use Rattle.tl_syntax.specs.Assignment.{Assignment, bind}
use Rattle.tl_syntax.specs.BoundVariables.{args_of, is_that_variable, stands_in, OccurIn, DifferInSlot}
use Rattle.tl_terms.specs.Bounds.{arg_value, arg_values, fact_in, same_value, bound_true, tuples_of, tuples}
use Rattle.tl_syntax.specs.Lists.{Each, AtLeastOne, Among}
use Rattle.tl_terms.specs.Situation.{Situation}
use Rattle.tl_terms.specs.Terms.{prepend, place_value}
use Rattle.tl_syntax.proofs.TotalOrders.{value_total, value_ties}
use Rattle.tl_syntax.specs.Keys.{Key, value_cmp}
use Rattle.tl_terms.specs.World.{World, has_fact, value_at, values_in, marked, values_of}
use Rattle.tl_terms.proofs.KeyLaws.{key-among, entry_of}
use Rattle.tl_syntax.proofs.ListLaws.{One-over, One-append, One-flat, one_out, one_in, Among-filter}
use Rattle.tl_syntax.specs.declared.value.Value.{Value}
use Rattle.tl_syntax.specs.declared.variable.Var.{Var}
use Rattle.tl_syntax.specs.declared.variable.Arg.{Arg}
use Rattle.tl_syntax.specs.declared.bound.Bound.{Bound}
use Rattle.tl_syntax.specs.declared.variable.Arg.TheVariants as arg
use Rattle.tl_syntax.specs.declared.bound.Bound.TheVariants as bound

-- ---- all lists of n of the values

Among-tuples_of : (vs : List Value) (n : ℕ) (t : List Value) → Among t (tuples_of vs n) ↔ ((length t ≡ n) × Each (λ v. Among v vs) t)
unfolding tuples_of
Among-tuples_of vs zero [] = (λ h. (refl, tt), λ h. inl refl)
Among-tuples_of vs zero (x ∷ t) = (elim [ inl e ↦ cc | inr b ↦ absurd b ], λ h. absurd (let k : ⊥ = omega arith in k))
Among-tuples_of vs (suc n) [] = (
  λ h. let w = one_out (λ v. Among [] (map (λ u. v ∷ u) (tuples_of vs n))) vs
      ((One-flat (λ y. y ≡ []) (λ v. map (λ u. v ∷ u) (tuples_of vs n)) vs).0 h) in
      let u = one_out (λ u. w.0 ∷ u ≡ []) (tuples_of vs n) ((One-over (λ y. y ≡ []) (λ u. w.0 ∷ u) (tuples_of vs n)).0 w.1.1) in
      let e : w.0 ∷ u.0 ≡ [] = u.1.1 in cc,
  λ h. absurd (let k : ⊥ = omega arith in k),
)
Among-tuples_of vs (suc n) (x ∷ t) = (
  λ h. let w = one_out (λ v. Among (x ∷ t) (map (λ u. v ∷ u) (tuples_of vs n))) vs
      ((One-flat (λ y. y ≡ x ∷ t) (λ v. map (λ u. v ∷ u) (tuples_of vs n)) vs).0 h) in
      let u = one_out (λ u. w.0 ∷ u ≡ x ∷ t) (tuples_of vs n) ((One-over (λ y. y ≡ x ∷ t) (λ u. w.0 ∷ u) (tuples_of vs n)).0 w.1.1) in
      let e : w.0 ∷ u.0 ≡ x ∷ t = u.1.1 in
      let p : w.0 ≡ x = cc in let q : u.0 ≡ t = cc in
      let k = (Among-tuples_of vs n t).0 (subst (λ z. Among z (tuples_of vs n)) q u.1.0) in
      (ap suc k.0, (subst (λ z. Among z vs) p w.1.0, k.1)),
  λ h. (One-flat (λ y. y ≡ x ∷ t) (λ v. map (λ u. v ∷ u) (tuples_of vs n)) vs).1
      (one_in (λ v. Among (x ∷ t) (map (λ u. v ∷ u) (tuples_of vs n))) x vs h.1.0
      ((One-over (λ y. y ≡ x ∷ t) (λ u. x ∷ u) (tuples_of vs n)).1
      (one_in (λ u. x ∷ u ≡ x ∷ t) t (tuples_of vs n) ((Among-tuples_of vs n t).1 (let e : length t ≡ n = omega arith in e, h.1.1)) refl))),
)

-- the tuples of a bound: as many values as variables, all of the two worlds, that make it true
abbrev pub worlds_of : Situation → List World
worlds_of s = s.world ∷ s.goal ∷ s.avoid ∷ []

pub Among-tuples : (s : Situation) (e : Assignment) (ss : List Var) (b : Bound) (t : List Value)
    → Among t (tuples s e ss b) ↔ (((length t ≡ length ss) × Each (λ v. Among v (values_of (worlds_of s))) t) ×
    (bound_true s (bind ss t e) b ≡ true))
unfolding tuples
Among-tuples s e ss b t =
    let k = Among-filter (λ u. bound_true s (bind ss u e) b) t (tuples_of (values_of (worlds_of s)) (length ss)) in
    let m = Among-tuples_of (values_of (worlds_of s)) (length ss) t in
    (λ h. (m.0 (k.0 h).0, (k.0 h).1), λ h. k.1 (m.1 h.0, h.1))

-- ---- a value that stands in a world is among its values

find_among : (v : Value) (es : List (Value × Unit {0})) → (is_some (dict.find value_cmp v es) ≡ true) ↔ Among v (map (λ e. e.0) es)
find_among v [] = (λ h. true≢false (sym h), λ h. absurd h)
find_among v (x ∷ es) = (elim (eq_by_cmp value_cmp v x.0) as (λ b. eq_by_cmp value_cmp v x.0 ≡ b →
    (is_some (cond b (Some x.1) (dict.find value_cmp v es)) ≡ true) ↔ (x.0 ≡ v ⊎ Among v (map (λ e. e.0) es))) [
      | true ↦ λ q. (λ _. inl (sym (value_ties v x.0 ((Equal-is (value_cmp v x.0)).0 q))), λ _. refl)
      | false ↦ λ q. (
        λ h. inr ((find_among v es).0 h),
        λ h. elim h [
          | inl e ↦ absurd (true≢false (sym (ap is_eq (tied_itself value_total v)) ∙
              (ap (λ z. eq_by_cmp value_cmp v z) (sym e) ∙ q)))
          | inr k ↦ (find_among v es).1 k
        ],
      )
    ]) refl

keys-map : (vs : List Value) → map (λ (e : Value × Unit {0}). e.0) (marked vs) ≡ vs
keys-map [] = refl
keys-map (v ∷ vs) = ap (λ us. v ∷ us) (keys-map vs)

pub Among-values_of : (ws : List World) (v : Value) → Among v (values_of ws) ↔ Among v (flat_map values_in ws)
unfolding values_of
Among-values_of ws v =
    let vs : List Value = flat_map values_in ws in
    let es : List (Value × Unit {0}) = marked vs in
    let m : dict.FinMap value_cmp (Unit {0}) = dict.from_entries es in
    let same : is_some (dict.find value_cmp v (dict.entries m)) ≡ is_some (dict.find value_cmp v es) =
    ap is_some (sym (dict.get-entries m v) ∙ dict.get-from_entries value_total es v) in (
      λ h. subst (Among v) (keys-map vs) ((find_among v es).0 (sym same ∙ (find_among v (dict.entries m)).1 h)),
      λ h. (find_among v (dict.entries m)).0 (same ∙ (find_among v es).1 (subst (Among v) (sym (keys-map vs)) h)),
    )

-- ---- a tuple that makes the bound true has its values in the worlds

args-among : (e : Assignment) (xs : List Arg) (vs : List Value) → arg_values e xs ≡ Some vs → (a : Arg) → Among a xs → (v : Value) →
    arg_value e a ≡ Some v → Among v vs
args-among e [] vs h a m v q = absurd m
args-among e (x ∷ xs) vs h a m v q = (elim (arg_value e x) as (λ o. arg_value e x ≡ o → prepend o (arg_values e xs) ≡ Some vs →
    Among v vs) [
      | None ↦ λ p k. cc
      | Some u ↦ λ p. (elim (arg_values e xs) as (λ o. arg_values e xs ≡ o → prepend (Some u) o ≡ Some vs → Among v vs) [
        | None ↦ λ r k. cc
        | Some us ↦ λ r k.
            let same : u ∷ us ≡ vs = cc in
            subst (Among v) same (elim m [
              | inl z ↦ inl (let d : Some u ≡ Some v = sym p ∙ (ap (arg_value e) z ∙ q) in let f : u ≡ v = cc in f)
              | inr n ↦ inr (args-among e xs us r a n v q)
            ])
      ]) refl
    ]) refl h

fact-values : (w : World) (k : Key) → has_fact w k ≡ true → (v : Value) → Among v k.1 → Among v (values_in w)
fact-values w k h v m =
    (One-append (λ y. y ≡ v) (flat_map (λ x. x.1) (set.items w.facts)) (flat_map (λ x. x.1 ∷ x.0.1) (dict.entries w.places))).1
    (inl ((One-flat (λ y. y ≡ v) (λ (x : Key). x.1) (set.items w.facts)).1
    (one_in (λ (x : Key). Among v x.1) k (set.items w.facts) ((key-among k (set.items w.facts)).1 (sym (set.contains-items w.facts k) ∙ h))
    m)))

place-values : (w : World) (k : Key) (u : Value) → value_at w k ≡ Some u → (v : Value) → (u ≡ v ⊎ Among v k.1) → Among v (values_in w)
place-values w k u h v m =
    (One-append (λ y. y ≡ v) (flat_map (λ x. x.1) (set.items w.facts)) (flat_map (λ x. x.1 ∷ x.0.1) (dict.entries w.places))).1
    (inr ((One-flat (λ y. y ≡ v) (λ (x : Key × Value). x.1 ∷ x.0.1) (dict.entries w.places)).1
    (one_in (λ (x : Key × Value). Among v (x.1 ∷ x.0.1)) (k, u) (dict.entries w.places)
    (entry_of (dict.entries w.places) k u (sym (dict.get-entries w.places k) ∙ h)) m)))

fact-bound : (w : World) (e : Assignment) (p : ℕ) (xs : List Arg) → fact_in w p (arg_values e xs) ≡ true → (a : Arg) → Among a xs →
    (v : Value) → arg_value e a ≡ Some v → Among v (values_in w)
fact-bound w e p xs h a m v q = (elim (arg_values e xs) as (λ o. arg_values e xs ≡ o → fact_in w p o ≡ true → Among v (values_in w)) [
  | None ↦ λ r k. absurd (true≢false (sym k))
  | Some vs ↦ λ r k. fact-values w (p, vs) k v (args-among e xs vs r a m v q)
]) refl h

place-bound : (w : World) (e : Assignment) (f : ℕ) (xs : List Arg) (x : Arg) →
    same_value (place_value w f (arg_values e xs)) (arg_value e x) ≡ true → (a : Arg) → Among a (x ∷ xs) → (v : Value) → arg_value e a ≡
    Some v → Among v (values_in w)
place-bound w e f xs x h a m v q = (elim (arg_values e xs) as (λ o. arg_values e xs ≡ o → same_value (place_value w f o) (arg_value e x) ≡
    true → Among v (values_in w)) [
      | None ↦ λ r k. absurd (true≢false (sym k))
      | Some vs ↦ λ r. (elim (value_at w (f, vs)) as (λ o. value_at w (f, vs) ≡ o → same_value o (arg_value e x) ≡ true →
          Among v (values_in w)) [
            | None ↦ λ n k. absurd (true≢false (sym k))
            | Some u ↦ λ n. (elim (arg_value e x) as (λ o. arg_value e x ≡ o → same_value (Some u) o ≡ true → Among v (values_in w)) [
              | None ↦ λ z k. absurd (true≢false (sym k))
              | Some y ↦ λ z k. place-values w (f, vs) u n v (elim m [
                | inl c ↦ inl (let d : Some y ≡ Some v = sym z ∙ (ap (arg_value e) c ∙ q) in let g : y ≡ v = cc in
                    value_ties u y ((Equal-is (value_cmp u y)).0 k) ∙ g)
                | inr c ↦ inr (args-among e xs vs r a c v q)
              ])
            ]) refl
          ]) refl
    ]) refl h

in_one : (s : Situation) (v : Value) → AtLeastOne (λ w. Among v (values_in w)) (worlds_of s) → Among v (values_of (worlds_of s))
in_one s v h = (Among-values_of (worlds_of s) v).1 ((One-flat (λ y. y ≡ v) values_in (worlds_of s)).1 h)

bound-values : (s : Situation) (e : Assignment) (b : Bound) → bound_true s e b ≡ true → (a : Arg) → Among a (args_of b) → (v : Value) →
    arg_value e a ≡ Some v → Among v (values_of (worlds_of s))
unfolding bound_true
bound-values s e (bound.Fact p xs) h a m v q = in_one s v (inl (fact-bound s.world e p xs h a m v q))
bound-values s e (bound.Place f xs x) h a m v q = in_one s v (inl (place-bound s.world e f xs x h a m v q))
bound-values s e (bound.GoalFact p xs) h a m v q = in_one s v (inr (inl (fact-bound s.goal e p xs h a m v q)))
bound-values s e (bound.GoalPlace f xs x) h a m v q = in_one s v (inr (inl (place-bound s.goal e f xs x h a m v q)))
bound-values s e (bound.GoalNot p xs) h a m v q = in_one s v (inr (inr (inl (fact-bound s.avoid e p xs h a m v q))))

names-value : (e : Assignment) (s : Var) (a : Arg) → is_that_variable s a ≡ true → (v : Value) → e s.slot ≡ Some v → arg_value e a ≡ Some v
names-value e s (arg.Var u) n v h = ap e (eqb-true u.slot s.slot n) ∙ h
names-value e s (arg.Val u) n v h = absurd (true≢false (sym n))

-- each value of the tuple is that of its variable
tuple-values : (ss : List Var) (t : List Value) (e : Assignment) (P : Value → Type 0) → length t ≡ length ss → DifferInSlot ss
    → ((s : Var) → Among s ss → (v : Value) → bind ss t e s.slot ≡ Some v → P v) → Each P t
tuple-values [] [] e P n d h = tt
tuple-values [] (v ∷ t) e P n d h = absurd (omega arith)
tuple-values (s ∷ ss) [] e P n d h = absurd (omega arith)
tuple-values (s ∷ ss) (v ∷ t) e P n d h = (
  h s (inl refl) v (ap (λ b. cond b (Some v) (bind ss t e s.slot)) (eq-eqb s.slot s.slot refl)),
  tuple-values ss t e P (omega arith) d.1 (λ u m x q. h u (inr m) x (ap (λ b. cond b (Some v) (bind ss t e u.slot))
      (ne_eqb u.slot s.slot (apart ss d.0 u m)) ∙ q)),
)
  where
    apart : (us : List Var) → Each (λ u. u.slot ≡ s.slot → ⊥) us → (u : Var) → Among u us → u.slot ≡ s.slot → ⊥
    apart [] k u m = absurd m
    apart (x ∷ us) k u m = elim m [ inl e ↦ λ q. k.0 (ap (λ (z : Var). z.slot) e ∙ q) | inr c ↦ apart us k.1 u c ]

occurs-of : (us : List Var) (b : Bound) → OccurIn us b → (s : Var) → Among s us → stands_in s b ≡ true
occurs-of [] b o s m = absurd m
occurs-of (u ∷ us) b o s m = elim m [ inl e ↦ subst (λ z. stands_in z b ≡ true) e o.0 | inr k ↦ occurs-of us b o.1 s k ]

-- where a test holds of one of the list, some item passes it
one-of : (s : Var) (xs : List Arg) → list_any (is_that_variable s) xs ≡ true → AtLeastOne (λ a. is_that_variable s a ≡ true) xs
one-of s [] h = absurd (true≢false (sym h))
one-of s (x ∷ xs) h = (elim (is_that_variable s x) as (λ b. is_that_variable s x ≡ b → (b || list_any (is_that_variable s) xs) ≡ true →
    is_that_variable s x ≡ true ⊎ AtLeastOne (λ a. is_that_variable s a ≡ true) xs) [
      | true ↦ λ q k. inl q
      | false ↦ λ q k. inr (one-of s xs k)
    ]) refl h

-- THE TUPLES OF A BOUND are exactly the tuples, of any values, that make it true
pub all-tuples : (s : Situation) (e : Assignment) (ss : List Var) (b : Bound) → DifferInSlot ss → OccurIn ss b → (t : List Value)
    → Among t (tuples s e ss b) ↔ ((length t ≡ length ss) × (bound_true s (bind ss t e) b ≡ true))
all-tuples s e ss b d o t = (
  λ h. let k = (Among-tuples s e ss b t).0 h in (k.0.0, k.1),
  λ h. (Among-tuples s e ss b t).1 (
    (
      h.0,
      tuple-values ss t e (λ v. Among v (values_of (worlds_of s))) h.0 d
          (λ u m v q. let n = one_out (λ a. is_that_variable u a ≡ true) (args_of b) (one-of u (args_of b) (occurs-of ss b o u m)) in
          bound-values s (bind ss t e) b h.1 n.0 n.1.0 v (names-value (bind ss t e) u n.0 n.1.1 v q)),
    ),
    h.1,
  ),
)
