-- Sorted texts that differ are in order.
use Rattle.std.proofs.Common.{◌≡◌, ◌<◌, ◌+◌, ◌-◌, ℕ, zero, suc, false, List, [], ◌∷◌, map, length, Ordering, Less, Equal, Greater}
use Rattle.std.proofs.Common.{true≢false, refl, sym, ap, ◌∙◌, subst, arith, get_or}
use Rattle.std.specs.Prelude.{IsSorted}
use Rattle.std.specs.Cmp.Lexicographic.{slice_cmp, nat_list_cmp_total}
use Rattle.std.specs.FinMap as finite
use Rattle.std.specs.Ordering.{nat_cmp, ordering_then, ordering_reverse, is_lt}
use Rattle.std.proofs.lemmas.List.{get_or-map, length-map}
use Rattle.std.proofs.lemmas.Option.{slice_get_within, get_or_from_slice_get}
use Rattle.tl_syntax.specs.Settled.{IsInOrder}
use Rattle.tl_syntax.specs.Texts.{AreDistinct}
use Rattle.tl_syntax.proofs.Places.{apart}

-- each text is below the next
abbrev Rise : List (List ℕ) → Type 0
Rise texts = (k : ℕ) → k + 1 < length texts → slice_cmp nat_cmp (get_or texts k []) (get_or texts (k + 1) []) ≡ Less

-- each text is below every later one
far : (texts : List (List ℕ)) → Rise texts → (n i : ℕ) → i + n + 1 < length texts →
    slice_cmp nat_cmp (get_or texts i []) (get_or texts (i + n + 1) []) ≡ Less
far texts rise zero i within = subst (λ (j : ℕ). slice_cmp nat_cmp (get_or texts i []) (get_or texts j []) ≡ Less) (omega arith)
    (rise i (omega arith))
far texts rise (suc n) i within =
    nat_list_cmp_total.trans (get_or texts i []) (get_or texts (i + n + 1) []) (get_or texts (i + suc n + 1) [])
    (far texts rise n i (omega arith))
    (subst (λ (j : ℕ). slice_cmp nat_cmp (get_or texts (i + n + 1) []) (get_or texts j []) ≡ Less) (omega arith)
    (rise (i + n + 1) (omega arith)))

-- the same by places
IsInOrder-rise : (texts : List (List ℕ)) → Rise texts → IsInOrder texts
IsInOrder-rise texts rise = λ i j x y before at_i at_j.
    let in_j : j < length texts = slice_get_within texts j y at_j in
    let less : slice_cmp nat_cmp (get_or texts i []) (get_or texts (i + (j - i - 1) + 1) []) ≡ Less =
    far texts rise (j - i - 1) i (omega arith) in
    let place : i + (j - i - 1) + 1 ≡ j = omega arith in
    let first : get_or texts i [] ≡ x = get_or_from_slice_get texts i x [] at_i in
    let second : get_or texts j [] ≡ y = get_or_from_slice_get texts j y [] at_j in
    rw (← first, ← second, ← place) less

-- two texts that differ, of which the second was not sorted before the first
less_from_sorted : (a b : List ℕ) (rest : Ordering) → (a ≡ b → ⊥) → is_lt (ordering_then (slice_cmp nat_cmp b a) rest) ≡ false →
    slice_cmp nat_cmp a b ≡ Less
less_from_sorted a b rest differ sorted =
    (elim (slice_cmp nat_cmp b a) as (λ r. slice_cmp nat_cmp b a ≡ r → is_lt (ordering_then r rest) ≡ false → slice_cmp nat_cmp a b ≡
    Less) [
      | Less ↦ λ e wrong. absurd (true≢false wrong)
      | Equal ↦ λ e _. absurd (differ (sym (finite.slice_cmp-IsAntisymmetric finite.nat_cmp-IsAntisymmetric b a e)))
      | Greater ↦ λ e _. nat_list_cmp_total.antisymm a b ∙ ap ordering_reverse e
    ]) refl sorted

-- the order of a text with a number, as pairs have it
abbrev pub cmp_by : {X : Type 0} → (X → List ℕ) → (X → ℕ) → X → X → Ordering
cmp_by text number x y = ordering_then (slice_cmp nat_cmp (text x) (text y)) (nat_cmp (number x) (number y))

module _ {X : Type 0} (text : X → List ℕ) (number : X → ℕ) where
  -- sorted entries whose texts differ have their texts in order
  pub IsInOrder-sorted : (entries : List X) → AreDistinct (map text entries) → IsSorted (cmp_by text number) entries →
      IsInOrder (map text entries)
  IsInOrder-sorted [] distinct sorted = IsInOrder-rise [] (λ k within. absurd (omega arith))
  IsInOrder-sorted (e ∷ es) distinct sorted = IsInOrder-rise (map text (e ∷ es)) (λ k within.
      let entries : List X = e ∷ es in
      let inside : k + 1 < length entries = rw (← length-map entries text) within in
      let first : get_or (map text entries) k [] ≡ text (get_or entries k e) = get_or-map text entries k e [] (omega arith) in
      let second : get_or (map text entries) (k + 1) [] ≡ text (get_or entries (k + 1) e) = get_or-map text entries (k + 1) e [] inside in
      let apart_here : get_or (map text entries) k [] ≡ get_or (map text entries) (k + 1) [] → ⊥ = λ same.
      absurd (suc_apart k (apart (map text entries) [] distinct k (k + 1) (omega arith) within same)) in
      rw (first, second) (less_from_sorted (text (get_or entries k e)) (text (get_or entries (k + 1) e))
      (nat_cmp (number (get_or entries (k + 1) e)) (number (get_or entries k e))) (λ same. apart_here (first ∙ same ∙ sym second))
      (sorted k e (omega arith) inside)))
    where
      suc_apart : (k : ℕ) → k ≡ k + 1 → ⊥
      suc_apart k e = omega arith
