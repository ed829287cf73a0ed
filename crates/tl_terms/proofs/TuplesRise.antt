-- The tuples of a bound rise strictly in lexicographic order.
use Rattle.std.proofs.Common.{◌≡◌, ℕ, zero, suc, List, [], ◌∷◌, ◌++◌, map, flat_map, filter, length, Bool, true, false, cond, ◌&&◌}
use Rattle.std.proofs.Common.{Ordering, Less, Equal, Greater, refl, ap, ◌∙◌}
use lib.Dec.{T}
use Rattle.std.specs.FinMap as dict
use Rattle.std.specs.Ordering.{ordering_then, is_lt}
use Rattle.std.specs.Cmp.{tied_itself}
use Rattle.std.specs.Cmp.Lexicographic.{slice_cmp}
use Rattle.tl_syntax.specs.Assignment.{Assignment, bind}
use Rattle.tl_terms.specs.Bounds.{bound_true, tuples_of, tuples}
use Rattle.tl_syntax.specs.Lists.{Each, Rises}
use Rattle.tl_terms.specs.Situation.{Situation}
use Rattle.tl_syntax.proofs.TotalOrders.{value_total}
use Rattle.tl_syntax.specs.Keys.{value_cmp}
use Rattle.tl_terms.specs.World.{World, values_in, marked, values_of}
use Rattle.tl_syntax.specs.declared.value.Value.{Value}
use Rattle.tl_syntax.specs.declared.variable.Var.{Var}
use Rattle.tl_syntax.specs.declared.bound.Bound.{Bound}

module _ {A : Type 0} (R : A → A → Ordering) where
  Each-filter : (P : A → Type 0) (p : A → Bool) (xs : List A) → Each P xs → Each P (filter p xs)
  Each-filter P p [] h = tt
  Each-filter P p (x ∷ xs) h = (elim (p x) as (λ b. Each P (cond b (x ∷ filter p xs) (filter p xs)))
      [ true ↦ (h.0, Each-filter P p xs h.1) | false ↦ Each-filter P p xs h.1 ])

  Rises-filter : (p : A → Bool) (xs : List A) → Rises R xs → Rises R (filter p xs)
  Rises-filter p [] h = tt
  Rises-filter p (x ∷ xs) h = (elim (p x) as (λ b. Rises R (cond b (x ∷ filter p xs) (filter p xs)))
      [ true ↦ (Each-filter (λ y. R x y ≡ Less) p xs h.0, Rises-filter p xs h.1) | false ↦ Rises-filter p xs h.1 ])

  Each-app : (P : A → Type 0) (xs ys : List A) → Each P xs → Each P ys → Each P (xs ++ ys)
  Each-app P [] ys h k = k
  Each-app P (x ∷ xs) ys h k = (h.0, Each-app P xs ys h.1 k)

  Rises-append : (xs ys : List A) → Rises R xs → Rises R ys → Each (λ x. Each (λ y. R x y ≡ Less) ys) xs → Rises R (xs ++ ys)
  Rises-append [] ys h k m = k
  Rises-append (x ∷ xs) ys h k m = (Each-app (λ y. R x y ≡ Less) xs ys h.0 m.0, Rises-append xs ys h.1 k m.1)

abbrev less : List Value → List Value → Ordering
less = slice_cmp value_cmp

heads : (v : Value) (us : List (List Value)) → Rises less us → Rises less (map (λ u. v ∷ u) us)
heads v [] h = tt
heads v (u ∷ us) h = (after us h.0, heads v us h.1)
  where
    after : (ws : List (List Value)) → Each (λ y. less u y ≡ Less) ws → Each (λ y. less (v ∷ u) y ≡ Less) (map (λ w. v ∷ w) ws)
    after [] k = tt
    after (w ∷ ws) k = (ap (λ r. ordering_then r (less u w)) (tied_itself value_total v) ∙ k.0, after ws k.1)

all_after : (v w : Value) (u : List Value) (us : List (List Value)) → value_cmp v w ≡ Less →
    Each (λ y. less (v ∷ u) y ≡ Less) (map (λ x. w ∷ x) us)
all_after v w u [] h = tt
all_after v w u (x ∷ us) h = (ap (λ r. ordering_then r (less u x)) h, all_after v w u us h)

flat_after : (v : Value) (u : List Value) (vs : List Value) (us : List (List Value)) → Each (λ w. value_cmp v w ≡ Less) vs →
    Each (λ y. less (v ∷ u) y ≡ Less) (flat_map (λ w. map (λ x. w ∷ x) us) vs)
flat_after v u [] us h = tt
flat_after v u (w ∷ vs) us h = Each-app less (λ y. less (v ∷ u) y ≡ Less) (map (λ x. w ∷ x) us) (flat_map (λ z. map (λ x. z ∷ x) us) vs)
    (all_after v w u us h.0) (flat_after v u vs us h.1)

products : (vs : List Value) (us : List (List Value)) → Rises value_cmp vs → Rises less us →
    Rises less (flat_map (λ v. map (λ u. v ∷ u) us) vs)
products [] us h k = tt
products (v ∷ vs) us h k = Rises-append less (map (λ u. v ∷ u) us) (flat_map (λ w. map (λ u. w ∷ u) us) vs) (heads v us k)
    (products vs us h.1 k) (each us)
  where
    each : (ws : List (List Value)) → Each (λ x. Each (λ y. less x y ≡ Less) (flat_map (λ w. map (λ u. w ∷ u) us) vs)) (map (λ u. v ∷ u) ws)
    each [] = tt
    each (w ∷ ws) = (flat_after v w vs us h.0, each ws)

pub tuples_of-rises : (vs : List Value) (n : ℕ) → Rises value_cmp vs → Rises less (tuples_of vs n)
unfolding tuples_of
tuples_of-rises vs zero h = (tt, tt)
tuples_of-rises vs (suc n) h = products vs (tuples_of vs n) h (tuples_of-rises vs n h)

-- the keys of a finite map rise
two : (a b : Bool) → T (a && b) → T a × T b
two true b h = (tt, h)
two false b h = absurd h

is_less : (r : Ordering) → T (is_lt r) → r ≡ Less
is_less Less h = refl
is_less Equal h = absurd h
is_less Greater h = absurd h

module _ {K X : Type 0} (R : K → K → Ordering) where
  -- std's test of a map's order, a key at a time
  abbrev below : K → List (K × X) → Bool
  below x [] = true
  below x (e ∷ es) = is_lt (R x e.0) && below x es

  keys-after : (k : K) (es : List (K × X)) → T (below k es) → Each (λ y. R k y ≡ Less) (map (λ x. x.0) es)
  keys-after k [] h = tt
  keys-after k (f ∷ es) h = let m = two (is_lt (R k f.0)) (below k es) h in (is_less (R k f.0) m.0, keys-after k es m.1)

  pub keys-rise : (es : List (K × X)) → T (dict.is_sorted R es) → Rises R (map (λ x. x.0) es)
  keys-rise [] h = tt
  keys-rise (e ∷ es) h = let m = two (below e.0 es) (dict.is_sorted R es) h in (keys-after e.0 es m.0, keys-rise es m.1)

values-rise : (ws : List World) → Rises value_cmp (values_of ws)
unfolding values_of
values-rise ws =
    let m : dict.FinMap value_cmp (Unit {0}) = dict.from_entries (marked (flat_map values_in ws)) in
    keys-rise value_cmp (dict.entries m) (dict.entries_sorted m)

-- the tuples of a bound rise
pub tuples-rise : (s : Situation) (e : Assignment) (ss : List Var) (b : Bound) → Rises (slice_cmp value_cmp) (tuples s e ss b)
unfolding tuples
tuples-rise s e ss b =
    let vs : List Value = values_of (s.world ∷ s.goal ∷ s.avoid ∷ []) in
    Rises-filter less (λ t. bound_true s (bind ss t e) b) (tuples_of vs (length ss))
    (tuples_of-rises vs (length ss) (values-rise (s.world ∷ s.goal ∷ s.avoid ∷ [])))
