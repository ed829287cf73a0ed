-- What a set's answers say of its keys, where the test of equality tells which are the same.
use Rattle.std.proofs.Common.{◌≡◌, ◌||◌, ℕ, zero, suc, Bool, true, false, List, [], ◌∷◌, ◌++◌, slice_get, Some, inl, inr, refl, sym, ap}
use Rattle.std.proofs.Common.{◌∙◌, true≢false, if◌then◌else◌}
use Rattle.std.specs.List.{list_any, IsDistinct, AllByRecursion}
use Rattle.indexmap.specs.IndexSet.{insert_key}
use Rattle.tl_syntax.proofs.Plain.{Tells}
use Rattle.tl_known.specs.NumberedLists.{IsOnce, IsAdded, Stay}

module _ {K : Type 0} (eq : K → K → Bool) (tells : Tells eq) where
  unlike : (x y : K) (ks : List K) (i : ℕ) → AllByRecursion (λ z. eq x z ≡ false) ks → slice_get ks i ≡ Some y → x ≡ y → ⊥
  unlike x y [] i h e s = cc
  unlike x y (k ∷ ks) zero h e s = let d : k ≡ y = cc in true≢false (sym ((tells x k).1 (s ∙ sym d)) ∙ h.0)
  unlike x y (k ∷ ks) (suc i) h e s = unlike x y ks i h.1 e s

  pub once : (ks : List K) → IsDistinct eq ks → IsOnce ks
  unfolding IsDistinct
  once [] h i j x e f = cc
  once (k ∷ ks) h zero zero x e f = refl
  once (k ∷ ks) h zero (suc j) x e f = absurd (unlike k x ks j h.0 f (let d : k ≡ x = cc in d))
  once (k ∷ ks) h (suc i) zero x e f = absurd (unlike k x ks i h.0 e (let d : k ≡ x = cc in d))
  once (k ∷ ks) h (suc i) (suc j) x e f = ap suc (once ks h.1 i j x e f)

  pub stored : (x k : K) (ks : List K) (i : ℕ) → slice_get ks i ≡ Some k → eq x k ≡ true → slice_get ks i ≡ Some x
  stored x k ks i e h = e ∙ ap (λ z. Some z) (sym ((tells x k).0 h))

  pub added : (ks ls : List K) (x : K) → ls ≡ insert_key eq ks x → IsAdded ks x ls
  added ks ls x e = by (list_any (eq x) ks) e
    where
      by : (b : Bool) → ls ≡ (if b then ks else ks ++ x ∷ []) → IsAdded ks x ls
      by true q = inl q
      by false q = inr q

  -- a key that no test finds is not there
  pub absent : (x : K) (ks : List K) → list_any (eq x) ks ≡ false → (i : ℕ) → slice_get ks i ≡ Some x → ⊥
  absent x [] h i e = cc
  absent x (k ∷ ks) h zero e = let d : k ≡ x = cc in let q : eq x k ≡ true = (tells x k).1 (sym d) in
      true≢false (or-left (eq x k) (list_any (eq x) ks) q h)
    where
      or-left : (a b : Bool) → a ≡ true → (a || b) ≡ false → true ≡ false
      or-left true b q f = f
      or-left false b q f = sym q
  absent x (k ∷ ks) h (suc i) e = absent x ks (or-right (eq x k) (list_any (eq x) ks) h) i e
    where
      or-right : (a b : Bool) → (a || b) ≡ false → b ≡ false
      or-right true b f = absurd (true≢false f)
      or-right false b f = f

get-front : {A : Type 0} (xs ys : List A) (i : ℕ) (x : A) → slice_get xs i ≡ Some x → slice_get (xs ++ ys) i ≡ Some x
get-front [] ys i x e = let d : ⊥ = cc in absurd d
get-front (z ∷ xs) ys zero x e = e
get-front (z ∷ xs) ys (suc i) x e = get-front xs ys i x e

-- an item more leaves the others their numbers
pub stay-added : {A : Type 0} (xs ys : List A) (x : A) → IsAdded xs x ys → Stay xs ys
stay-added xs ys x (inl e) i y f = ap (λ zs. slice_get zs i) e ∙ f
stay-added xs ys x (inr e) i y f = ap (λ zs. slice_get zs i) e ∙ get-front xs (x ∷ []) i y f
