-- Numbers of which it is told at places that they were seen.
use Rattle.std.proofs.Common.{◌≡◌, ℕ, zero, suc, ◌%◌, Bool, true, false, true≢false, List, [], ◌∷◌, ◌++◌, ◌||◌, slice_index_or, slice_set}
use Rattle.std.proofs.Common.{nat_eq, eqb-true, refl, sym, ap, ◌∙◌}
use Rattle.std.specs.List.{list_any}
use Rattle.std.proofs.lemmas.List.Folds.{list_all-append}
use Rattle.tl_syntax.proofs.Plain.{both, with_both}
use Rattle.tl_nodes.specs.Seen.{all_seen}

-- a number that was not seen is none of them
pub unseen : (seen : List Bool) (ids : List ℕ) (i : ℕ) → all_seen seen ids ≡ true → slice_index_or seen (i % 4096) true ≡ false →
    list_any (λ y. nat_eq y i) ids ≡ false
unseen seen [] i h k = refl
unseen seen (y ∷ ids) i h k =
    let all = both (slice_index_or seen (y % 4096) true) (all_seen seen ids) h in
    by (nat_eq y i) refl all.0 (unseen seen ids i all.1 k)
  where
    by : (b : Bool) → nat_eq y i ≡ b → slice_index_or seen (y % 4096) true ≡ true → list_any (λ x. nat_eq x i) ids ≡ false →
        (b || list_any (λ x. nat_eq x i) ids) ≡ false
    by true e was rest = absurd (true≢false (sym was ∙ (ap (λ x. slice_index_or seen (x % 4096) true) (eqb-true y i e) ∙ k)))
    by false e was rest = rest

still-true : (xs : List Bool) (k q : ℕ) → slice_index_or xs q true ≡ true → slice_index_or (slice_set xs k true) q true ≡ true
still-true [] k q h = h
still-true (x ∷ xs) zero zero h = refl
still-true (x ∷ xs) zero (suc q) h = h
still-true (x ∷ xs) (suc k) zero h = h
still-true (x ∷ xs) (suc k) (suc q) h = still-true xs k q h

now-true : (xs : List Bool) (k : ℕ) → slice_index_or (slice_set xs k true) k true ≡ true
now-true [] k = refl
now-true (x ∷ xs) zero = refl
now-true (x ∷ xs) (suc k) = now-true xs k

still-seen : (seen : List Bool) (k : ℕ) (ids : List ℕ) → all_seen seen ids ≡ true → all_seen (slice_set seen k true) ids ≡ true
still-seen seen k [] h = refl
still-seen seen k (y ∷ ids) h =
    let all = both (slice_index_or seen (y % 4096) true) (all_seen seen ids) h in
    with_both (still-true seen k (y % 4096) all.0) (still-seen seen k ids all.1)

-- with one more number, whose place is written
pub more-seen : (seen : List Bool) (ids : List ℕ) (i : ℕ) → all_seen seen ids ≡ true →
    all_seen (slice_set seen (i % 4096) true) (ids ++ i ∷ []) ≡ true
more-seen seen ids i h =
    list_all-append (λ q. slice_index_or (slice_set seen (i % 4096) true) (q % 4096) true) ids (i ∷ [])
    ∙ with_both (still-seen seen (i % 4096) ids h) (with_both (now-true seen (i % 4096)) refl)
