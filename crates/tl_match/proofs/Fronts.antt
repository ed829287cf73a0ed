-- How leading values stand to those of a row that fits, and of later rows.
use Rattle.std.proofs.Common.{◌≡◌, ◌⊎◌, ◌<◌, ◌+◌, ℕ, zero, suc, leb, eqb, eqb-true, List, [], ◌∷◌, length, take, drop, true, false, cond}
use Rattle.std.proofs.Common.{true≢false, Some, None, Ordering, Less, Equal, Greater, refl, sym, ap, ◌∙◌, subst, inl, inr, arith}
use Rattle.std.proofs.lemmas.Bool.{eqb-false}
use Rattle.std.specs.Prelude.{slice_get}
use Rattle.std.specs.Ordering.{is_gt, ordering_then, ordering_reverse}
use Rattle.std.specs.Cmp.{tied_itself, upto}
use Rattle.tl_syntax.specs.declared.value.Value.{Value}
use Rattle.tl_syntax.specs.Keys.{value_cmp}
use Rattle.tl_syntax.proofs.TotalOrders.{value_total, value_ties}
use Rattle.tl_syntax.proofs.Plain.{value-tells, both}
use Rattle.tl_match.specs.declared.pattern.Part.{Part}
use Rattle.tl_match.specs.declared.pattern.Part.TheVariants.{Fixed, Free}
use Rattle.tl_rows.specs.Plain.{row_cmp}
use Rattle.tl_match.specs.Fits.{fits_at, fits_all}
use Rattle.tl_match.specs.Front.{seen_after, led_by, front, front_cmp}
use Rattle.tl_rows.proofs.Lookup.{row_total}
use Rattle.tl_match.proofs.Matching.{is_value-some}

-- leading values of lists in order are in order
prefix-order : (n : ℕ) (x y : List Value) → is_gt (row_cmp x y) ≡ false → is_gt (row_cmp (take n x) (take n y)) ≡ false
prefix-order zero x y h = refl
prefix-order (suc n) [] [] h = refl
prefix-order (suc n) [] (b ∷ y) h = refl
prefix-order (suc n) (a ∷ x) [] h = absurd (true≢false h)
prefix-order (suc n) (a ∷ x) (b ∷ y) h =
    (elim (value_cmp a b) as (λ r. is_gt (ordering_then r (row_cmp x y)) ≡ false → is_gt (ordering_then r (row_cmp (take n x) (take n y))) ≡
    false) [
      | Less ↦ λ _. refl
      | Equal ↦ λ e. prefix-order n x y e
      | Greater ↦ λ e. absurd (true≢false e)
    ]) h

not-greater : (o : Ordering) → o ≡ Less → is_gt o ≡ false
not-greater o e = ap is_gt e

greater : (o : Ordering) → is_gt o ≡ true → o ≡ Greater
greater Less h = absurd (true≢false (sym h))
greater Equal h = absurd (true≢false (sym h))
greater Greater h = refl

-- a front above the leading values of a row is above those of an earlier row
pub earlier-too : (f x y : List Value) → row_cmp x y ≡ Less → front_cmp f y ≡ Greater → front_cmp f x ≡ Greater
earlier-too f x y less h =
    (elim (is_gt (front_cmp f x)) as (λ b. is_gt (front_cmp f x) ≡ b → front_cmp f x ≡ Greater) [
      | true ↦ λ e. greater (front_cmp f x) e
      | false ↦ λ e. absurd (true≢false (sym (ap is_gt h) ∙ upto row_total f (take (length f) x) (take (length f) y) e
          (prefix-order (length f) x y (not-greater _ less))))
    ]) refl

-- a front below the leading values of a row is below those of a later row
pub later-too : (f x y : List Value) → row_cmp x y ≡ Less → front_cmp f x ≡ Less → front_cmp f y ≡ Less
later-too f x y less h = turned (front_cmp f y) (row_cmp (take (length f) y) f) (row_total.antisymm f (take (length f) y)) above
  where
    back : row_cmp (take (length f) x) f ≡ Greater
    back = row_total.antisymm (take (length f) x) f ∙ ap ordering_reverse h

    above : is_gt (row_cmp (take (length f) y) f) ≡ true
    above = (elim (is_gt (row_cmp (take (length f) y) f)) as (λ b. is_gt (row_cmp (take (length f) y) f) ≡ b → b ≡ true) [
      | true ↦ λ _. refl
      | false ↦ λ e. sym (upto row_total (take (length f) x) (take (length f) y) f (prefix-order (length f) x y (not-greater _ less)) e) ∙
          ap is_gt back
    ]) refl

    turned : (o r : Ordering) → o ≡ ordering_reverse r → is_gt r ≡ true → o ≡ Less
    turned o r e g = e ∙ ap ordering_reverse (greater r g)

-- the first n values of both are the same, so the order is that of what follows
record SameTo (n : ℕ) (a t : List Value) : Type 0 where
  order : row_cmp a t ≡ row_cmp (drop n a) (drop n t)
  same : (m : ℕ) → m < n → slice_get a m ≡ slice_get t m

same-to-none : (a t : List Value) → SameTo 0 a t
same-to-none a t = record { order = refl; same = λ m p. absurd (omega arith) }

pub rest-of : (xs : List Value) (n : ℕ) (v : Value) → slice_get xs n ≡ Some v → drop n xs ≡ v ∷ drop (n + 1) xs
rest-of [] n v e = cc
rest-of (x ∷ xs) zero v e = let h : x ≡ v = cc in ap (λ y. y ∷ xs) h
rest-of (x ∷ xs) (suc n) v e = rest-of xs n v e ∙ ap (λ m. v ∷ drop m (x ∷ xs)) (let h : suc (n + 1) ≡ suc n + 1 = omega arith in h)

has-item : (xs : List Value) (n : ℕ) (v : Value) → slice_get xs n ≡ Some v → 0 < length xs
has-item [] n v e = cc
has-item (x ∷ xs) n v e = omega arith

abbrev Stands : List Value → List Value → List Value → List Value → Type 0
Stands f row a t = (front_cmp f row ≡ Equal) ⊎ ((0 < length a) × (front_cmp f row ≡ row_cmp a t))

-- one more leading value that both have
stands-more : (v : Value) (f row a t : List Value) → Stands f row a t → Stands (v ∷ f) (v ∷ row) a t
stands-more v f row a t h =
    let e : front_cmp (v ∷ f) (v ∷ row) ≡ front_cmp f row = ap (λ r. ordering_then r (front_cmp f row)) (tied_itself value_total v) in
    elim h [ inl p ↦ inl (e ∙ p) | inr p ↦ inr (p.0, e ∙ p.1) ]

-- the front stands to a row that fits as the known values stand to the tuple, or ties with it
follows-from : (ps : List Part) (row a t : List Value) (n : ℕ) → SameTo n a t → fits_all ps row t ≡ true → Stands (front n ps a) row a t
follows-from [] row a t n s h = inl refl
follows-from (p ∷ ps) [] a t n s h = absurd (true≢false (sym h))
follows-from (Fixed u ∷ ps) (v ∷ row) a t n s h =
    let parts = both (fits_at (Fixed u) v t) (fits_all ps row t) h in
    let e : u ≡ v = (value-tells u v).0 parts.0 in
    subst (λ w. Stands (w ∷ front n ps a) (v ∷ row) a t) (sym e) (stands-more v (front n ps a) row a t
    (follows-from ps row a t n s parts.1))
follows-from (Free m ∷ ps) (v ∷ row) a t n s h =
    let parts = both (fits_at (Free m) v t) (fits_all ps row t) h in
    let is : slice_get t m ≡ Some v = is_value-some (slice_get t m) v parts.0 in
    (elim (leb m n) as (λ b. leb m n ≡ b → Stands (led_by (cond b (slice_get a m) None) (front (seen_after n (Free m)) ps a))
    (v ∷ row) a t) [
      | false ↦ λ _. inl refl
      | true ↦ λ low. (elim (eqb m n) as (λ b. eqb m n ≡ b → Stands (led_by (slice_get a m) (front (cond b (n + 1) n) ps a))
          (v ∷ row) a t) [
            | false ↦ λ e. let known : slice_get a m ≡ Some v = s.same m (strictly m n low e) ∙ is in
                subst (λ o. Stands (led_by o (front n ps a)) (v ∷ row) a t) (sym known)
                (stands-more v (front n ps a) row a t (follows-from ps row a t n s parts.1))
            | true ↦ λ e. let at : m ≡ n = eqb-true m n e in
                (elim (slice_get a m) as (λ o. slice_get a m ≡ o → Stands (led_by o (front (n + 1) ps a)) (v ∷ row) a t) [
                  | None ↦ λ _. inl refl
                  | Some x ↦ λ k. here m x v ps row a t n s at k is (λ more. follows-from ps row a t (n + 1) more parts.1)
                ]) refl
          ]) refl
    ]) refl
  where
    strictly : (m n : ℕ) → leb m n ≡ true → eqb m n ≡ false → m < n
    strictly m n low e = grind (arith, Rattle.std.proofs.lemmas.Bool.Decides.nat_tests)

    here : (m : ℕ) (x v : Value) (ps : List Part) (row a t : List Value) (n : ℕ) → SameTo n a t → m ≡ n → slice_get a m ≡ Some x →
        slice_get t m ≡ Some v → (SameTo (n + 1) a t → Stands (front (n + 1) ps a) row a t) → Stands (x ∷ front (n + 1) ps a) (v ∷ row) a t
    here m x v ps row a t n s at k is more =
        let ka : slice_get a n ≡ Some x = subst (λ i. slice_get a i ≡ Some x) at k in
        let kt : slice_get t n ≡ Some v = subst (λ i. slice_get t i ≡ Some v) at is in
        let order : row_cmp a t ≡ ordering_then (value_cmp x v) (row_cmp (drop (n + 1) a) (drop (n + 1) t)) = s.order ∙
        (λ i. row_cmp (rest-of a n x ka i) (rest-of t n v kt i)) in
        (elim (value_cmp x v) as (λ r. value_cmp x v ≡ r → Stands (x ∷ front (n + 1) ps a) (v ∷ row) a t) [
          | Less ↦ λ e. inr (
            has-item a n x ka,
            ap (λ r. ordering_then r (front_cmp (front (n + 1) ps a) row)) e ∙
                sym (order ∙ ap (λ r. ordering_then r (row_cmp (drop (n + 1) a) (drop (n + 1) t))) e),
          )
          | Greater ↦ λ e. inr (
            has-item a n x ka,
            ap (λ r. ordering_then r (front_cmp (front (n + 1) ps a) row)) e ∙
                sym (order ∙ ap (λ r. ordering_then r (row_cmp (drop (n + 1) a) (drop (n + 1) t))) e),
          )
          | Equal ↦ λ e. let same : x ≡ v = value_ties x v e in
              subst (λ w. Stands (w ∷ front (n + 1) ps a) (v ∷ row) a t) (sym same)
              (stands-more v (front (n + 1) ps a) row a t (more (record {
                order = order ∙ ap (λ r. ordering_then r (row_cmp (drop (n + 1) a) (drop (n + 1) t))) e;
                same = λ i p. first_more a t n i x v same ka kt s.same p;
              })))
        ]) refl
      where
        first_more : (a t : List Value) (n i : ℕ) (x v : Value) → x ≡ v → slice_get a n ≡ Some x → slice_get t n ≡ Some v →
            ((m : ℕ) → m < n → slice_get a m ≡ slice_get t m) → i < n + 1 → slice_get a i ≡ slice_get t i
        first_more a t n i x v e ka kt below p =
            (elim (eqb i n) as (λ b. eqb i n ≡ b → slice_get a i ≡ slice_get t i) [
              | true ↦ λ q. let at : i ≡ n = eqb-true i n q in subst (λ m. slice_get a m ≡ slice_get t m) (sym at)
                  (ka ∙ (ap (λ (w : Value). Some w) e ∙ sym kt))
              | false ↦ λ q. let d = eqb-false i n q in below i (omega arith)
            ]) refl

pub follows : (ps : List Part) (row a t : List Value) → fits_all ps row t ≡ true → (front_cmp (front 0 ps a) row ≡ Equal) ⊎
    ((0 < length a) × (front_cmp (front 0 ps a) row ≡ row_cmp a t))
follows ps row a t h = follows-from ps row a t 0 (same-to-none a t) h
