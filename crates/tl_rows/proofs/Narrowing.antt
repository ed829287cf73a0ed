-- What one look of a search by halves says of the rows on its side.
use Rattle.std.proofs.Common.{◌≡◌, ℕ, ◌<◌, ◌≤◌, ◌+◌, List, length, get_or, Ordering, Less, Equal, Greater, refl, sym, ap, ◌∙◌, subst, arith}
use Rattle.std.proofs.lemmas.List.{get_or_default}
use Rattle.std.specs.List.{AllWithin}
use Rattle.std.specs.List.Sorted.{IsNonDecreasingBy}
use Rattle.std.specs.Ordering.{ordering_index}

least-index : (o : Ordering) → ordering_index o ≤ 0 → o ≡ Less
least-index Less p = refl
least-index Equal p = absurd (omega (arith, p))
least-index Greater p = absurd (omega (arith, p))

greatest-index : (o : Ordering) → 2 ≤ ordering_index o → o ≡ Greater
greatest-index Less p = absurd (omega (arith, p))
greatest-index Equal p = absurd (omega (arith, p))
greatest-index Greater p = refl

module _ {X : Type 0} (ord : X → Ordering) (xs : List X) (m : ℕ) (x : X) (low : m < length xs) (is : x ≡ get_or xs m x) where
  at : (o : Ordering) → ord x ≡ o → (d : X) → ord (get_or xs m d) ≡ o
  at o e d = ap ord (get_or_default xs m d x low ∙ sym is) ∙ e

  pub all-less : (j : ℕ) → j ≡ m + 1 → ord x ≡ Less → IsNonDecreasingBy (λ y. ordering_index (ord y)) xs →
      AllWithin (λ y. ord y ≡ Less) xs 0 j
  all-less j n e rise k d _ q =
      let p : ordering_index (ord (get_or xs k d)) ≤ ordering_index (ord (get_or xs m d)) = rise k m d (omega (arith, n, q)) low in
      least-index _ (subst (λ o. ordering_index (ord (get_or xs k d)) ≤ ordering_index o) (at Less e d) p)

  pub all-greater : ord x ≡ Greater → IsNonDecreasingBy (λ y. ordering_index (ord y)) xs → AllWithin (λ y. ord y ≡ Greater) xs m (length xs)
  all-greater e rise k d p q =
      let r : ordering_index (ord (get_or xs m d)) ≤ ordering_index (ord (get_or xs k d)) = rise m k d p q in
      greatest-index _ (subst (λ o. ordering_index o ≤ ordering_index (ord (get_or xs k d))) (at Greater e d) r)
