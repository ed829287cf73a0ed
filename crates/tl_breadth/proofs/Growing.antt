-- Lists of kept pairs that grow by pairs of one level.
use Rattle.std.proofs.Common.{◌≡◌, ◌≤◌, ◌<◌, ◌+◌, ℕ, List, [], ◌∷◌, ◌++◌, length, slice_get, Some, Result, Ok, Err, OnOk, OnErr, IfOk, sym}
use Rattle.std.proofs.Common.{ap, ◌∙◌, subst, arith, inl, inr}
use native.Mathlib.Decide.{dec_lt}
use Rattle.std.proofs.lemmas.Option.{slice_get_within}
use Rattle.tl_search.specs.KeptPairs.{KeptPair}
use Rattle.tl_search.proofs.WalkLaws.{length-snoc}
use Rattle.tl_search.proofs.ListLaws.{get-old, get-either, get-inside, get-one}
use Rattle.tl_breadth.specs.Outcomes.{GrowsBy, HasLevels}

pub ok-anyway : {A E : Type 0} (X : Type 0) (r : Result A E) → X → OnOk r X
ok-anyway X (Ok a) h = h
ok-anyway X (Err e) h = tt

pub ok-at : {X E : Type 0} (r : Result X E) (Q : ℕ → Type 0) (P : ℕ → X → Type 0) (from : ℕ) → Q from →
    IfOk r (λ o. (k : ℕ) → Q k → P k o) → IfOk r (P from)
ok-at (Ok o) Q P from q h = h from q
ok-at (Err e) Q P from q h = tt

pub grows-same : (m : ℕ) (old new : List KeptPair) → new ≡ old → GrowsBy m old new
grows-same m old new e = record {
  longer = omega (arith, ap length e);
  stay = λ i x at. subst (λ xs. slice_get xs i ≡ Some x) (sym e) at;
  come = λ i x at less. (let q : i < length old = slice_get_within old i x (subst (λ xs. slice_get xs i ≡ Some x) e at) in let b : ⊥ =
      omega arith in absurd b);
}

pub grows-one : (m : ℕ) (old new : List KeptPair) (y : KeptPair) → new ≡ old ++ y ∷ [] → length y.path ≡ m → GrowsBy m old new
grows-one m old new y e f = record {
  longer = omega (arith, ap length e, length-snoc old y);
  stay = λ i x at. subst (λ xs. slice_get xs i ≡ Some x) (sym e) (get-old old (y ∷ []) i x at);
  come = λ i x at less. elim (get-either old y i x (subst (λ xs. slice_get xs i ≡ Some x) e at)) [
    | inl h ↦ (let q : i < length old = slice_get_within old i x h in let b : ⊥ = omega arith in absurd b)
    | inr h ↦ ap (λ (z : KeptPair). length z.path) (sym h.1) ∙ f
  ];
}

pub grows-trans : (m : ℕ) (a b c : List KeptPair) → GrowsBy m a b → GrowsBy m b c → GrowsBy m a c
grows-trans m a b c g h = record {
  longer = omega (arith, g.longer, h.longer);
  stay = λ i x at. h.stay i x (g.stay i x at);
  come = λ i x at less. by_place i x at less (dec_lt i (length b));
}
  where
    by_place : (i : ℕ) (x : KeptPair) → slice_get c i ≡ Some x → length a ≤ i → Dec (i < length b) → length x.path ≡ m
    by_place i x at less (yes q) = let y = get-inside b i q in ap (λ (z : KeptPair). length z.path)
        (get-one c i x y.0 at (h.stay i y.0 y.1)) ∙ g.come i y.0 y.1 less
    by_place i x at less (no q) = h.come i x at (omega arith)

-- the levels stay those of the pairs
pub levels-grow : (old new : List KeptPair) (done end depth : ℕ) → end ≤ length old → GrowsBy (depth + 1) old new →
    HasLevels old done end depth → HasLevels new (done + 1) end depth
levels-grow old new done end depth inside g l i x at from = by_place (dec_lt i (length old))
  where
    by_place : Dec (i < length old) → (i < end → length x.path ≡ depth) × (end ≤ i → length x.path ≡ depth + 1)
    by_place (yes q) = let y = get-inside old i q in let same = get-one new i y.0 x (g.stay i y.0 y.1) at in
        subst (λ (z : KeptPair). (i < end → length z.path ≡ depth) × (end ≤ i → length z.path ≡ depth + 1)) same (l i y.0 y.1 (omega arith))
    by_place (no q) = (λ less. (let b : ⊥ = omega arith in absurd b), λ _. g.come i x at (omega arith))

pub err-anyway : {A E : Type 0} (X : Type 0) (r : Result A E) → X → OnErr r X
err-anyway X (Ok a) x = tt
err-anyway X (Err e) x = x

pub err-map : {A E : Type 0} (X Y : Type 0) (r : Result A E) → (X → Y) → OnErr r X → OnErr r Y
err-map X Y (Ok a) f x = tt
err-map X Y (Err e) f x = f x
