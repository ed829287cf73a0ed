-- How many actions the paths of listed nodes have, against the bound.
use Rattle.std.proofs.Common.{◌≡◌, ◌<◌, ◌+◌, ℕ, zero, suc, List, [], ◌∷◌, ◌++◌, length, slice_get, slice_index, true, false, true≢false}
use Rattle.std.proofs.Common.{Option, Some, None, refl, sym, ap, ◌∙◌, arith, leb-true, leb-false, ltb-true, ltb-false}
use Rattle.std.specs.Option.{option_map}
use Rattle.std.proofs.lemmas.Option.{slice_get-map, slice_get_within, get_or_from_slice_get}
use Rattle.tl_syntax.specs.declared.action.Action.{Action}
use Rattle.tl_search.specs.KeptPairs.{KeptPair}
use Rattle.tl_search.proofs.WalkLaws.{length-snoc}
use Rattle.tl_cert.specs.Checking.{depths_of, goes_on, is_no_farther}
use Rattle.tl_cert.specs.Covers.{IsNoFarther, MustBeClosed}
use Rattle.tl_cert.specs.Links.{IsWithinBound}

pub depth-kept : (kept : List KeptPair) (i : ℕ) (x : KeptPair) → slice_get kept i ≡ Some x → slice_get (depths_of kept) i ≡
    Some (length x.path)
depth-kept kept i x e = slice_get-map (λ (y : KeptPair). length y.path) kept i ∙ ap (option_map (λ (y : KeptPair). length y.path)) e

pub depth-none : (kept : List KeptPair) (i : ℕ) (x : KeptPair) → slice_get (depths_of kept) i ≡ None → slice_get kept i ≡ Some x → ⊥
depth-none kept i x n e = let q : None ≡ Some (length x.path) = sym n ∙ depth-kept kept i x e in let b : ⊥ = cc in b

pub depth-some : (kept : List KeptPair) (i d : ℕ) → slice_get (depths_of kept) i ≡ Some d → (x : KeptPair) × (slice_get kept i ≡ Some x) ×
    (length x.path ≡ d)
depth-some [] i d e = let b : ⊥ = cc in absurd b
depth-some (x ∷ kept) zero d e = (x, refl, let q : length x.path ≡ d = cc in q)
depth-some (x ∷ kept) (suc i) d e = depth-some kept i d e

pub depths-more : (kept : List KeptPair) (x : KeptPair) → depths_of (kept ++ x ∷ []) ≡ depths_of kept ++ length x.path ∷ []
depths-more [] x = refl
depths-more (y ∷ kept) x = ap (λ ds. length y.path ∷ ds) (depths-more kept x)

pub length-depths : (kept : List KeptPair) → length (depths_of kept) ≡ length kept
length-depths [] = refl
length-depths (x ∷ kept) = ap suc (length-depths kept)

-- ---- tests

pub goes-within : (bound : Option ℕ) (d : ℕ) (path : List Action) (a : Action) → length path ≡ d → goes_on bound d ≡ true →
    IsWithinBound bound (path ++ a ∷ [])
goes-within None d path a e t = tt
goes-within (Some n) d path a e t = omega (arith, length-snoc path a, ltb-true d n t)

pub stops-within : (bound : Option ℕ) (d : ℕ) (path : List Action) (a : Action) → length path ≡ d → goes_on bound d ≡ false →
    IsWithinBound bound (path ++ a ∷ []) → ⊥
stops-within None d path a e t w = true≢false t
stops-within (Some n) d path a e t w = let b : ⊥ = omega (arith, length-snoc path a, ltb-false d n t) in b

pub goes-asked : (bound : Option ℕ) (d : ℕ) (path : List Action) → length path ≡ d → goes_on bound d ≡ true → MustBeClosed bound path
goes-asked None d path e t = tt
goes-asked (Some n) d path e t = omega (arith, ltb-true d n t)

pub stops-asked : (bound : Option ℕ) (d : ℕ) (path : List Action) → length path ≡ d → goes_on bound d ≡ false → MustBeClosed bound path → ⊥
stops-asked None d path e t w = true≢false t
stops-asked (Some n) d path e t w = let b : ⊥ = omega (arith, ltb-false d n t) in b

pub near-test : (bound : Option ℕ) (path other : List Action) → is_no_farther bound (length path) (length other) ≡ true →
    IsNoFarther bound path other
near-test None path other t = tt
near-test (Some n) path other t = leb-true (length other) (length path + 1) t

pub far-test : (bound : Option ℕ) (path other : List Action) → is_no_farther bound (length path) (length other) ≡ false →
    IsNoFarther bound path other → ⊥
far-test None path other t h = true≢false t
far-test (Some n) path other t h = let b : ⊥ = omega (arith, leb-false (length other) (length path + 1) t) in b

-- ---- by the number of a node

-- its depth, where it is listed
pub depth-at : (depths : List ℕ) (kept : List KeptPair) (at d : ℕ) → depths ≡ depths_of kept → Some d ≡ slice_get depths at →
    slice_get (depths_of kept) at ≡ Some d
depth-at depths kept at d e f = ap (λ ds. slice_get ds at) (sym e) ∙ sym f

-- it is listed, where it has a depth
pub there : (depths : List ℕ) (kept : List KeptPair) (at d : ℕ) → depths ≡ depths_of kept → Some d ≡ slice_get depths at → at < length kept
there depths kept at d e f = let x = depth-some kept at d (depth-at depths kept at d e f) in slice_get_within kept at x.0 x.1

pub asked-at : (bound : Option ℕ) (depths : List ℕ) (kept : List KeptPair) (at : ℕ) (x : KeptPair) → depths ≡ depths_of kept →
    slice_get kept at ≡ Some x → goes_on bound (slice_index depths at) ≡ true → MustBeClosed bound x.path
asked-at bound depths kept at x e s t = goes-asked bound (slice_index depths at) x.path
    (sym (ap (λ ds. slice_index ds at) e ∙ get_or_from_slice_get (depths_of kept) at (length x.path) 0 (depth-kept kept at x s))) t
