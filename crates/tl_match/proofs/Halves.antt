-- Of rows that rise, those that a search by halves passes over come first.
use Rattle.std.proofs.Common.{◌≡◌, ℕ, zero, suc, ◌<◌, ◌+◌, Bool, true, false, true≢false, List, [], ◌∷◌, length, get_or, take, drop}
use Rattle.std.proofs.Common.{Ordering, Less, Equal, Greater, refl, sym, ap, ◌∙◌, subst, arith}
use Rattle.tl_syntax.specs.declared.value.Value.{Value}
use Rattle.tl_syntax.specs.Lists.{Each, Rises}
use Rattle.tl_rows.specs.Plain.{row_cmp}
use Rattle.tl_match.specs.Front.{front_cmp, is_passed}
use Rattle.tl_match.proofs.Fronts.{earlier-too, later-too}

-- so is each row before one that is passed over
passed-earlier : (ties : Bool) (f x y : List Value) → row_cmp x y ≡ Less → is_passed ties (front_cmp f y) ≡ true →
    is_passed ties (front_cmp f x) ≡ true
passed-earlier ties f x y less h =
    (elim (front_cmp f x) as (λ o. front_cmp f x ≡ o → is_passed ties o ≡ true) [
      | Less ↦ λ e. absurd (true≢false (sym (ap (is_passed ties) (sym (later-too f x y less e)) ∙ h)))
      | Equal ↦ λ e. (elim (front_cmp f y) as (λ o. front_cmp f y ≡ o → is_passed ties o ≡ true → ties ≡ true) [
        | Less ↦ λ _ q. absurd (true≢false (sym q))
        | Equal ↦ λ _ q. q
        | Greater ↦ λ g _. let d : Greater ≡ Equal = sym (earlier-too f x y less g) ∙ e in cc
      ]) refl h
      | Greater ↦ λ e. refl
    ]) refl

row-after : (x : List Value) (xs : List (List Value)) (i : ℕ) (r : List Value) → i < length xs → r ≡ get_or xs i r →
    Each (λ y. row_cmp x y ≡ Less) xs → row_cmp x r ≡ Less
row-after x [] i r p is e = absurd (omega arith)
row-after x (y ∷ xs) zero r p is e = subst (λ z. row_cmp x z ≡ Less) (sym is) e.0
row-after x (y ∷ xs) (suc i) r p is e = row-after x xs i r (omega arith) is e.1

module _ (ties : Bool) (f : List Value) where
  passed-to : (xs : List (List Value)) (i : ℕ) (r : List Value) → i < length xs → r ≡ get_or xs i r → Rises row_cmp xs →
      is_passed ties (front_cmp f r) ≡ true → Each (λ y. is_passed ties (front_cmp f y) ≡ true) (take (suc i) xs)
  passed-to [] i r p is rises h = tt
  passed-to (x ∷ xs) zero r p is rises h = (subst (λ y. is_passed ties (front_cmp f y) ≡ true) is h, tt)
  passed-to (x ∷ xs) (suc i) r p is rises h = (
    passed-earlier ties f x r (row-after x xs i r (omega arith) is rises.0) h,
    passed-to xs i r (omega arith) is rises.1 h,
  )

  -- all rows up to one that is passed over
  pub passed-up-to : (xs : List (List Value)) (i j : ℕ) (r : List Value) → j ≡ i + 1 → i < length xs → r ≡ get_or xs i r →
      Rises row_cmp xs → is_passed ties (front_cmp f r) ≡ true → Each (λ y. is_passed ties (front_cmp f y) ≡ true) (take j xs)
  passed-up-to xs i j r e p is rises h = subst (λ n. Each (λ y. is_passed ties (front_cmp f y) ≡ true) (take n xs))
      (let k : suc i ≡ j = omega (arith, e) in k) (passed-to xs i r p is rises h)

  kept-later : (x y : List Value) → row_cmp x y ≡ Less → is_passed ties (front_cmp f x) ≡ false → is_passed ties (front_cmp f y) ≡ false
  kept-later x y less h = (elim (is_passed ties (front_cmp f y)) as (λ b. is_passed ties (front_cmp f y) ≡ b → b ≡ false) [
    | true ↦ λ e. absurd (true≢false (sym (passed-earlier ties f x y less e) ∙ h))
    | false ↦ λ e. refl
  ]) refl

  all-kept : (x : List Value) (xs : List (List Value)) → is_passed ties (front_cmp f x) ≡ false → Each (λ y. row_cmp x y ≡ Less) xs →
      Each (λ y. is_passed ties (front_cmp f y) ≡ false) xs
  all-kept x [] h e = tt
  all-kept x (y ∷ xs) h e = (kept-later x y e.0 h, all-kept x xs h e.1)

  -- all rows from one that is not passed over on
  pub kept-from : (xs : List (List Value)) (i : ℕ) (r : List Value) → i < length xs → r ≡ get_or xs i r → Rises row_cmp xs →
      is_passed ties (front_cmp f r) ≡ false → Each (λ y. is_passed ties (front_cmp f y) ≡ false) (drop i xs)
  kept-from [] i r p is rises h = absurd (omega arith)
  kept-from (x ∷ xs) zero r p is rises h = let e : is_passed ties (front_cmp f x) ≡ false =
      subst (λ y. is_passed ties (front_cmp f y) ≡ false) is h in (e, all-kept x xs e rises.0)
  kept-from (x ∷ xs) (suc i) r p is rises h = kept-from xs i r (omega arith) is rises.1 h

passed-is-greater : (o : Ordering) → is_passed false o ≡ true → o ≡ Greater
passed-is-greater Less h = absurd (true≢false (sym h))
passed-is-greater Equal h = absurd (true≢false (sym h))
passed-is-greater Greater h = refl

pub passed-greater : (f : List Value) (xs : List (List Value)) → Each (λ y. is_passed false (front_cmp f y) ≡ true) xs →
    Each (λ y. front_cmp f y ≡ Greater) xs
passed-greater f [] e = tt
passed-greater f (x ∷ xs) e = (passed-is-greater _ e.0, passed-greater f xs e.1)
