-- Kept pairs by their numbers.
use Rattle.std.proofs.Common.{◌≡◌, ℕ, zero, suc, List, [], ◌∷◌, length, slice_get, Option, Some, None, refl, sym, ap, ◌∙◌, inl, inr}
use Rattle.std.specs.Option.{option_map}
use Rattle.std.proofs.lemmas.Option.{slice_get-map}
use Rattle.tl_syntax.specs.Lists.{Among}
use Rattle.tl_terms.specs.Pairs.{Pair}
use Rattle.tl_search.specs.KeptPairs.{KeptPair, pairs_of}

-- the pairs of the list are those of the kept
pub pair-kept : (kept : List KeptPair) (i : ℕ) (x : Pair) → slice_get (pairs_of kept) i ≡ Some x → (y : KeptPair) ×
    (slice_get kept i ≡ Some y) × (y.node ≡ x)
pair-kept kept i x e = by_get (slice_get kept i) refl (sym (slice_get-map (λ (y : KeptPair). y.node) kept i) ∙ e)
  where
    by_get : (o : Option KeptPair) → slice_get kept i ≡ o → option_map (λ (y : KeptPair). y.node) o ≡ Some x → (y : KeptPair) ×
        (slice_get kept i ≡ Some y) × (y.node ≡ x)
    by_get None q h = let b : ⊥ = cc in absurd b
    by_get (Some y) q h = (y, q, let d : y.node ≡ x = cc in d)

pub kept-pair : (kept : List KeptPair) (i : ℕ) (y : KeptPair) → slice_get kept i ≡ Some y → slice_get (pairs_of kept) i ≡ Some y.node
kept-pair kept i y e = slice_get-map (λ (z : KeptPair). z.node) kept i ∙ ap (option_map (λ (z : KeptPair). z.node)) e

pub kept-among : (kept : List KeptPair) (i : ℕ) (y : KeptPair) → slice_get kept i ≡ Some y → Among y.node (pairs_of kept)
kept-among [] i y e = let b : ⊥ = cc in absurd b
kept-among (x ∷ kept) zero y e = inl (let d : x ≡ y = cc in ap (λ (z : KeptPair). z.node) d)
kept-among (x ∷ kept) (suc i) y e = inr (kept-among kept i y e)

pub length-pairs : (kept : List KeptPair) → length (pairs_of kept) ≡ length kept
length-pairs [] = refl
length-pairs (x ∷ kept) = ap suc (length-pairs kept)
