-- What a set's answers say of its keys, where the test of equality tells which are the same.
use Rattle.std.proofs.Common.{◌≡◌, ◌||◌, ◌<◌, ◌+◌, cond, position, nat_lt, ℕ, suc, Bool, true, false, not, List, [], ◌∷◌, ◌++◌, length}
use Rattle.std.proofs.Common.{slice_get, Some, inl, inr, refl, sym, ap, subst, ◌∙◌, if◌then◌else◌, arith}
use Rattle.std.specs.List.{list_any, position_or_len}
use Rattle.std.proofs.lemmas.Option.{cond_some}
use borrow.Author.Tests.{ltb-true}
use Rattle.indexmap.specs.IndexSet.{insert_key}
use Rattle.tl_syntax.proofs.Plain.{Tells}
use Rattle.tl_search.proofs.ListLaws.{get-either}
use Rattle.tl_known.proofs.Numbering.{stored}

module _ {K : Type 0} (eq : K → K → Bool) (tells : Tells eq) where
  pub pushed : (ks ls : List K) (x : K) → ls ≡ insert_key eq ks x → list_any (eq x) ks ≡ false → ls ≡ ks ++ x ∷ []
  pushed ks ls x e h = e ∙ ap (λ b. if b then ks else ks ++ x ∷ []) h

-- ---- the first key that passes a test

step : {X : Type 0} (p : X → Bool) (x : X) (xs : List X) → position_or_len p (x ∷ xs) ≡ cond (p x) 0 (suc (position_or_len p xs))
step p x xs = by (p x)
  where
    by : (b : Bool) → cond (not b) (1 + position_or_len p xs) 0 ≡ cond b 0 (suc (position_or_len p xs))
    by true = refl
    by false = omega arith

passes : {X : Type 0} (p : X → Bool) (xs : List X) → position_or_len p xs < length xs → (k : X) ×
    (slice_get xs (position_or_len p xs) ≡ Some k) × (p k ≡ true)
passes p [] h = let b : ⊥ = omega arith in absurd b
passes {X} p (x ∷ xs) h = by (p x) refl (passes p xs)
  where
    by : (b : Bool) → p x ≡ b → (position_or_len p xs < length xs → (k : X) × (slice_get xs (position_or_len p xs) ≡ Some k) × (p k ≡ true))
        → (k : X) × (slice_get (x ∷ xs) (position_or_len p (x ∷ xs)) ≡ Some k) × (p k ≡ true)
    by true e rest = let q : position_or_len p (x ∷ xs) ≡ 0 = step p x xs ∙ ap (λ b. cond b 0 (suc (position_or_len p xs))) e in
        (x, ap (slice_get (x ∷ xs)) q, e)
    by false e rest =
        let q : position_or_len p (x ∷ xs) ≡ suc (position_or_len p xs) = step p x xs ∙ ap (λ b. cond b 0 (suc (position_or_len p xs))) e in
        let k = rest (let l : suc (position_or_len p xs) < suc (length xs) = subst (λ n. n < suc (length xs)) q h in omega arith) in
        (k.0, ap (slice_get (x ∷ xs)) q ∙ k.1, k.2)

pub found : {X : Type 0} (p : X → Bool) (xs : List X) (i : ℕ) → position p xs ≡ Some i → (k : X) × (slice_get xs i ≡ Some k) × (p k ≡ true)
found p xs i e =
    let c = cond_some (nat_lt (position_or_len p xs) (length xs)) (position_or_len p xs) i e in
    let k = passes p xs (ltb-true (position_or_len p xs) (length xs) c.0) in
    (k.0, ap (slice_get xs) (sym c.1) ∙ k.1, k.2)

module _ {K : Type 0} (eq : K → K → Bool) (tells : Tells eq) where
  pub found-at : (x : K) (ks : List K) (i : ℕ) → position (eq x) ks ≡ Some i → slice_get ks i ≡ Some x
  found-at x ks i e = let k = found (eq x) ks i e in stored eq tells x k.0 ks i k.1 k.2

  -- a key that is not there is found by no test
  pub not-found : (x : K) (ks : List K) → ((i : ℕ) → slice_get ks i ≡ Some x → ⊥) → list_any (eq x) ks ≡ false
  not-found x [] h = refl
  not-found x (k ∷ ks) h = by (eq x k) refl (not-found x ks (λ i e. h (suc i) e))
    where
      by : (b : Bool) → eq x k ≡ b → list_any (eq x) ks ≡ false → (eq x k || list_any (eq x) ks) ≡ false
      by true e r = absurd (h 0 (ap (λ z. Some z) (sym ((tells x k).0 e))))
      by false e r = ap (λ b. b || list_any (eq x) ks) e ∙ r

  pub new-place : (x : K) (ks ls : List K) (i : ℕ) → ls ≡ ks ++ x ∷ [] → ((j : ℕ) → slice_get ks j ≡ Some x → ⊥) → slice_get ls i ≡ Some x →
      i ≡ length ks
  new-place x ks ls i e h f = elim (get-either ks x i x (subst (λ zs. slice_get zs i ≡ Some x) e f)) [
    | inl a ↦ absurd
        (h i a)
    | inr a ↦ a.0
  ]
