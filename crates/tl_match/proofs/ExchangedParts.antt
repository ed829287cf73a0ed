-- Patterns and rows with their first two parts or values exchanged.
use Rattle.std.proofs.Common.{◌≡◌, ℕ, zero, suc, ◌<◌, Bool, true, false, cond, ◌&&◌, ◌||◌, List, [], ◌∷◌, refl, sym, ap, ◌∙◌, arith}
use Rattle.std.proofs.lemmas.List.Sums.{sum_by-cons}
use Rattle.std.specs.List.{sum_by, list_any}
use Rattle.tl_syntax.specs.declared.value.Value.{Value}
use Rattle.tl_match.specs.declared.pattern.Part.{Part}
use Rattle.tl_match.specs.Fits.{fits_at, fits_all, is_free, occurs}
use Rattle.tl_match.specs.Least.{fits_some}
use Rattle.tl_rows.specs.Second.{exchanged, AreExchanged}

and-false : (a b : Bool) → (a && false) ≡ (b && false)
and-false true true = refl
and-false true false = refl
and-false false true = refl
and-false false false = refl

and-turned : (a b c : Bool) → (a && (b && c)) ≡ (b && (a && c))
and-turned true b c = refl
and-turned false true c = refl
and-turned false false c = refl

or-turned : (a b c : Bool) → (a || (b || c)) ≡ (b || (a || c))
or-turned true true c = refl
or-turned true false c = refl
or-turned false b c = refl

-- a tuple makes parts a row where it makes the exchanged parts the exchanged row
pub fits-exchanged : (ps : List Part) (r t : List Value) → fits_all ps r t ≡ fits_all (exchanged ps) (exchanged r) t
fits-exchanged [] [] t = refl
fits-exchanged [] (v ∷ []) t = refl
fits-exchanged [] (v ∷ u ∷ vs) t = refl
fits-exchanged (p ∷ []) [] t = refl
fits-exchanged (p ∷ []) (v ∷ []) t = refl
fits-exchanged (p ∷ []) (v ∷ u ∷ vs) t = and-false (fits_at p v t) (fits_at p u t)
fits-exchanged (p ∷ q ∷ ps) [] t = refl
fits-exchanged (p ∷ q ∷ ps) (v ∷ []) t = and-false (fits_at p v t) (fits_at q v t)
fits-exchanged (p ∷ q ∷ ps) (v ∷ u ∷ vs) t = and-turned (fits_at p v t) (fits_at q u t) (fits_all ps vs t)

-- they have the same variables
pub occurs-exchanged : (n : ℕ) (ps : List Part) → occurs n (exchanged ps) ≡ occurs n ps
occurs-exchanged n [] = refl
occurs-exchanged n (p ∷ []) = refl
occurs-exchanged n (p ∷ q ∷ ps) = or-turned (is_free n q) (is_free n p) (occurs n ps)

abbrev is-some : ℕ → Bool
is-some zero = false
is-some (suc n) = true

some-is : (n : ℕ) → 0 < n → true ≡ is-some n
some-is zero p = absurd (omega arith)
some-is (suc n) p = refl

-- whether an item passes a test, by how many do
any-counted : {X : Type 0} (p : X → Bool) (xs : List X) → list_any p xs ≡ is-some (sum_by (λ x. cond (p x) 1 0) xs)
any-counted p [] = refl
any-counted p (x ∷ xs) = (elim (p x) as (λ b. p x ≡ b → (b || list_any p xs) ≡ is-some (sum_by (λ y. cond (p y) 1 0) (x ∷ xs))) [
  | true ↦ λ e. let s = sum_by-cons (λ y. cond (p y) 1 0) x xs in let one : cond {A = ℕ} (p x) 1 0 ≡ 1 = ap (λ b. cond b 1 0) e in
      some-is _ (omega (arith, s, one))
  | false ↦ λ e. let s = sum_by-cons (λ y. cond (p y) 1 0) x xs in let none : cond {A = ℕ} (p x) 1 0 ≡ 0 = ap (λ b. cond b 1 0) e in
      any-counted p xs ∙ ap is-some (let q : sum_by (λ y. cond (p y) 1 0) xs ≡ sum_by (λ y. cond (p y) 1 0) (x ∷ xs) =
      omega (arith, s, none) in q)
]) refl

-- the exchanged parts are one of the exchanged rows under the tuples under which the parts are one of the rows
pub some-exchanged : (ps : List Part) (rows second : List (List Value)) (t : List Value) → AreExchanged rows second →
    fits_some (exchanged ps) second t ≡ fits_some ps rows t
some-exchanged ps rows second t h =
    any-counted (λ r. fits_all (exchanged ps) r t) second
    ∙ (ap is-some (h (λ r. cond (fits_all (exchanged ps) r t) 1 0) ∙ λ i. sum_by (λ r. cond (sym (fits-exchanged ps r t) i) 1 0) rows)
    ∙ sym (any-counted (λ r. fits_all ps r t) rows))
