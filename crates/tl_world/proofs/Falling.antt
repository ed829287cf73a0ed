-- Places that are set give the same in any order that keeps the order of the values of each place.
use Rattle.std.proofs.Common.{◌≡◌, true, false, cond, not, ◌&&◌, List, [], ◌∷◌, map, Option, Some, refl, sym, ap, ◌∙◌, Ordering, Less}
use Rattle.std.proofs.Common.{Equal, Greater}
use Rattle.std.proofs.lemmas.List.Sorted.{ranks_by, IsStrictWeakOrder-flip}
use Rattle.std.specs.Cmp.{IsStrictWeakOrder}
use Rattle.std.specs.FinMap as dict
use Rattle.std.specs.List.{filter}
use Rattle.std.specs.List.Sorted.{IsStableBy, ties}
use Rattle.std.specs.Ordering.{is_lt, is_eq, ordering_reverse, eq_by_cmp}
use Rattle.tl_syntax.specs.declared.place_value.PlaceValue.{PlaceValue}
use Rattle.tl_syntax.specs.declared.value.Value.{Value}
use Rattle.tl_syntax.specs.declared.value.Value.TheVariants.{Sym}
use Rattle.tl_syntax.specs.Keys.{Key, key_cmp, place_entry}
use Rattle.tl_syntax.proofs.TotalOrders.{key_total, key_ties}
use Rattle.tl_terms.specs.Step.{overwritten}
use Rattle.tl_world.specs.Falling.{is_above}

-- the value of the first, or what there was
first_or : Option Value → List PlaceValue → Option Value
first_or o [] = o
first_or o (p ∷ ps) = Some p.value

get-overwritten : (m : dict.FinMap key_cmp Value) (ps : List PlaceValue) (q : Key) → dict.get (overwritten m (map place_entry ps)) q ≡
    first_or (dict.get m q) (filter (λ p. eq_by_cmp key_cmp q (place_entry p).0) ps)
unfolding first_or
get-overwritten m [] q = refl
get-overwritten m (p ∷ ps) q =
    dict.get-insert key_total (overwritten m (map place_entry ps)) (place_entry p).0 p.value q
    ∙ elim (eq_by_cmp key_cmp q (place_entry p).0) as (λ b. cond b (Some p.value) (dict.get (overwritten m (map place_entry ps)) q) ≡
    first_or (dict.get m q) (cond b (p ∷ filter (λ p. eq_by_cmp key_cmp q (place_entry p).0) ps)
    (filter (λ p. eq_by_cmp key_cmp q (place_entry p).0) ps))) [
      | true ↦ refl
      | false ↦ get-overwritten m ps q
    ]

tie : (r s : Ordering) → s ≡ ordering_reverse r → (not (is_lt s) && not (is_lt r)) ≡ is_eq r
tie Less s e = ap (λ o. not (is_lt o) && false) e
tie Equal s e = ap (λ o. not (is_lt o) && true) e
tie Greater s e = ap (λ o. not (is_lt o) && true) e

probe : Key → PlaceValue
probe q = record { fun = q.0; args = q.1; value = Sym 0 }

ties-at : (q : Key) (p : PlaceValue) → ties is_above (probe q) p ≡ eq_by_cmp key_cmp q (place_entry p).0
unfolding probe
ties-at q p = tie (key_cmp q (place_entry p).0) (key_cmp (place_entry p).0 q) (key_total.antisymm (place_entry p).0 q)

pub overwritten-stable : (m : dict.FinMap key_cmp Value) (xs ys : List PlaceValue) → IsStableBy is_above xs ys →
    overwritten m (map place_entry ys) ≡ overwritten m (map place_entry xs)
overwritten-stable m xs ys h = dict.same_map key_total key_ties (overwritten m (map place_entry ys)) (overwritten m (map place_entry xs))
    (λ q.
    get-overwritten m ys q ∙ (ap (first_or (dict.get m q)) (same q) ∙ sym (get-overwritten m xs q)))
  where
    same : (q : Key) → filter (λ p. eq_by_cmp key_cmp q (place_entry p).0) ys ≡ filter (λ p. eq_by_cmp key_cmp q (place_entry p).0) xs
    same q = (λ i. filter (λ p. sym (ties-at q p) i) ys) ∙ (h (probe q) ∙ λ i. filter (λ p. ties-at q p i) xs)

pub above-order : IsStrictWeakOrder is_above
above-order = IsStrictWeakOrder-flip (λ a b. is_lt (key_cmp (place_entry a).0 (place_entry b).0))
    (ranks_by key_total (λ (p : PlaceValue). (place_entry p).0))
