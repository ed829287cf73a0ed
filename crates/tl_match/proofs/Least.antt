-- The least tuple so far, as rows are looked at one after another.
use Rattle.std.proofs.Common.{◌≡◌, ℕ, ◌<◌, ◌+◌, Bool, true, false, cond, ◌&&◌, ◌||◌, List, [], ◌∷◌, ◌++◌, length, get_or, take, true≢false}
use Rattle.std.proofs.Common.{refl, sym, ap, ◌∙◌, subst, Option, Some, None, inl, inr, ◌⊎◌, Ordering, Less, Equal, Greater}
use Rattle.std.proofs.lemmas.List.{take_more}
use Rattle.std.specs.List.{list_any}
use Rattle.std.specs.Ordering.{is_lt, is_gt, ordering_reverse}
use Rattle.std.specs.Cmp.{tied_itself, upto}
use Rattle.tl_syntax.specs.declared.value.Value.{Value}
use Rattle.tl_syntax.proofs.Plain.{both, with_both}
use Rattle.tl_match.specs.declared.pattern.Part.{Part}
use Rattle.tl_match.specs.declared.pattern.Match.{Match}
use Rattle.tl_rows.specs.Plain.{row_cmp}
use Rattle.tl_match.specs.Fits.{fits_all, IsMatch}
use Rattle.tl_match.specs.Least.{fits_some, above, lower, lesser, IsLeast}
use Rattle.tl_rows.proofs.Lookup.{row_total}

abbrev pub NotBelow : ℕ → Option Match → List Value → Type 0
NotBelow k None t = ⊥
NotBelow k (Some m) t = is_gt (row_cmp (take k m.values) t) ≡ false

pub keep : (k : ℕ) (b : Option Match) (c d : List Value → Bool) → ((t : List Value) → c t ≡ true → d t ≡ true) →
    ((t : List Value) → length t ≡ k → d t ≡ true → (c t ≡ true) ⊎ NotBelow k b t) → IsLeast k c b → IsLeast k d b
unfolding IsLeast
keep k None c d up from least = λ t size. elim (d t) as (λ x. d t ≡ x → x ≡ false) [
  | true ↦ λ h. elim (from t size h) [ inl p ↦ sym p ∙ least t size | inr q ↦ absurd q ]
  | false ↦ λ h. refl
] refl
keep k (Some m) c d up from least = (
  least.0,
  least.1,
  up _ least.2,
  λ t size h.
      elim (from t size h) [ inl p ↦ least.3 t size p | inr q ↦ q ],
)

not_gt : (o : Ordering) → is_lt o ≡ true → is_gt o ≡ false
not_gt Less h = refl
not_gt Equal h = refl
not_gt Greater h = absurd (true≢false (sym h))

renew : (k : ℕ) (b : Option Match) (m : Match) (c d : List Value → Bool) → m.len ≡ k → length (take k m.values) ≡ k → d (take k m.values) ≡
    true → lower b k (take k m.values) ≡ true → ((t : List Value) → length t ≡ k → d t ≡ true → (c t ≡ true) ⊎ (take k m.values ≡ t)) →
    IsLeast k c b → IsLeast k d (Some m)
unfolding IsLeast
renew k b m c d len full here low from least = (
  len,
  full,
  here,
  λ t size h. elim (from t size h) [
    | inl p ↦ earlier b t size p low least
    | inr q ↦ subst (λ x. is_gt (row_cmp (take k m.values) x) ≡ false) q (ap is_gt (tied_itself row_total (take k m.values)))
  ],
)
  where
    earlier : (b : Option Match) (t : List Value) → length t ≡ k → c t ≡ true → lower b k (take k m.values) ≡ true → IsLeast k c b →
        is_gt (row_cmp (take k m.values) t) ≡ false
    earlier None t size p low least = absurd (true≢false (sym p ∙ least t size))
    earlier (Some b) t size p low least = upto row_total (take k m.values) (take k b.values) t (not_gt _ low) (least.3 t size p)

back_not_gt : (x y : List Value) → is_lt (row_cmp x y) ≡ false → is_gt (row_cmp y x) ≡ false
back_not_gt x y h = ap is_gt (row_total.antisymm y x) ∙ elim (row_cmp x y) as
    (λ o. is_lt o ≡ false → is_gt (ordering_reverse o) ≡ false) [
      | Less ↦ λ e. absurd (true≢false e)
      | Equal ↦ λ e. refl
      | Greater ↦ λ e.
          refl
    ] h

or_split : (a f u : Bool) → ((a || f) && u) ≡ true → ((a && u) ≡ true) ⊎ ((f ≡ true) × (u ≡ true))
or_split true f u h = inl h
or_split false f u h = inr (both f u h)

or_more : (a f u : Bool) → (a && u) ≡ true → ((a || f) && u) ≡ true
or_more true f u h = h
or_more false f u h = absurd (true≢false (sym h))

any-push : {A : Type 0} (p : A → Bool) (xs : List A) (x : A) → list_any p (xs ++ x ∷ []) ≡ (list_any p xs || p x)
any-push p [] x = elim (p x) as (λ b. (b || false) ≡ (false || b)) [ true ↦ refl | false ↦ refl ]
any-push p (y ∷ xs) x = elim (p y) as (λ b. (b || list_any p (xs ++ x ∷ [])) ≡
    ((b || list_any p xs) || p x)) [ true ↦ refl | false ↦ any-push p xs x ]

module _ (parts : List Part) (k : ℕ) (after : Option Match) (rows : List (List Value)) (i : ℕ) (p : i < length rows) (row : List Value)
    (is : get_or rows i row ≡ row) (best : Option Match) where
  abbrev pub Past : ℕ → List Value → Bool
  Past n t = fits_some parts (take n rows) t && above after k t

  grown : (t : List Value) → Past (i + 1) t ≡ ((fits_some parts (take i rows) t || fits_all parts row t) && above after k t)
  grown t = ap (λ rs. fits_some parts rs t && above after k t) (take_more rows i row p ∙ ap (λ r. take i rows ++ r ∷ []) is)
      ∙ ap (λ b. b && above after k t) (any-push (λ r. fits_all parts r t) (take i rows) row)

  up_to : (t : List Value) → Past i t ≡ true → Past (i + 1) t ≡ true
  up_to t h = grown t ∙ or_more (fits_some parts (take i rows) t) (fits_all parts row t) (above after k t) h

  split : (t : List Value) → Past (i + 1) t ≡ true → (Past i t ≡ true) ⊎ ((fits_all parts row t ≡ true) × (above after k t ≡ true))
  split t h = or_split (fits_some parts (take i rows) t) (fits_all parts row t) (above after k t) (sym (grown t) ∙ h)

  pub least-none : IsMatch parts row k None → IsLeast k (Past i) best → IsLeast k (Past (i + 1)) best
  least-none miss least = keep k best (Past i) (Past (i + 1)) up_to (λ t size h.
      elim (split t h) [ inl q ↦ inl q | inr q ↦ absurd (true≢false (sym q.0 ∙ miss t size)) ]) least

  pub least-below : (m : Match) → IsMatch parts row k (Some m) → above after k (take k m.values) ≡ false → IsLeast k (Past i) best →
      IsLeast k (Past (i + 1)) best
  least-below m fit low least = keep k best (Past i) (Past (i + 1)) up_to
      (λ t size h. elim (split t h) [
        | inl q ↦ inl q
        | inr q ↦ absurd (true≢false
            (sym q.1 ∙ (ap (above after k) (sym (fit.3 t size q.0)) ∙ low)))
      ]) least

  pub least-new : (m : Match) → IsMatch parts row k (Some m) → above after k (take k m.values) ≡ true → lower best k (take k m.values) ≡
      true → IsLeast k (Past i) best → IsLeast k (Past (i + 1)) (Some m)
  least-new m fit high low least = renew k best m (Past i) (Past (i + 1)) fit.0 fit.1
      (grown _ ∙ with_both (ap (λ b. fits_some parts (take i rows) (take k m.values) || b) fit.2 ∙
      or_true (fits_some parts (take i rows) (take k m.values))) high) low
      (λ t size h. elim (split t h) [ inl q ↦ inl q | inr q ↦ inr (fit.3 t size q.0) ]) least
    where
      or_true : (a : Bool) → (a || true) ≡ true
      or_true true = refl
      or_true false = refl

module _ (parts : List Part) (k : ℕ) (after : Option Match) (rows : List (List Value)) (i : ℕ) (p : i < length rows) (row : List Value)
    (is : get_or rows i row ≡ row) where
  pub least-old : (best : Option Match) (m : Match) → IsMatch parts row k (Some m) → lower best k (take k m.values) ≡ false →
      IsLeast k (Past parts k after rows i p row is best i) best → IsLeast k (Past parts k after rows i p row is best (i + 1)) best
  least-old None m fit low least = absurd (true≢false low)
  least-old (Some b) m fit low least = keep k (Some b) (Past parts k after rows i p row is (Some b) i)
      (Past parts k after rows i p row is (Some b) (i + 1)) (up_to parts k after rows i p row is (Some b))
      (λ t size h. elim (split parts k after rows i p row is (Some b) t h) [
        | inl q ↦ inl q
        | inr q ↦ inr
            (subst (λ x. is_gt (row_cmp (take k b.values) x) ≡ false) (fit.3 t size q.0)
            (back_not_gt (take k m.values) (take k b.values) low))
      ]) least

-- two tests that agree on the tuples of that length
pub least-same : (k : ℕ) (b : Option Match) (c d : List Value → Bool) → ((t : List Value) → length t ≡ k → c t ≡ d t) → IsLeast k c b →
    IsLeast k d b
unfolding IsLeast
least-same k None c d e least = λ t size. sym (e t size) ∙ least t size
least-same k (Some m) c d e least = (least.0, least.1, sym (e _ least.1) ∙ least.2, λ t size h. least.3 t size (e t size ∙ h))

-- one more row, with the lesser of its match and the best so far
pub least-step : (parts : List Part) (k : ℕ) (after : Option Match) (rows : List (List Value)) (i : ℕ) → i < length rows →
    (row : List Value) → get_or rows i row ≡ row → (best found : Option Match) → IsMatch parts row k found
    → IsLeast k (λ t. fits_some parts (take i rows) t && above after k t) best →
    IsLeast k (λ t. fits_some parts (take (i + 1) rows) t && above after k t) (lesser best found after k)
least-step parts k after rows i p row is best None fit least = least-none parts k after rows i p row is best fit least
least-step parts k after rows i p row is best (Some m) fit least =
    (elim (above after k (take k m.values)) as (λ b. above after k (take k m.values) ≡ b →
    IsLeast k (λ t. fits_some parts (take (i + 1) rows) t && above after k t)
    (cond (b && lower best k (take k m.values)) (Some m) best)) [
      | false ↦ λ e. least-below parts k after rows i p row is best m fit e least
      | true ↦ λ e. (elim (lower best k (take k m.values)) as (λ b. lower best k (take k m.values) ≡ b →
          IsLeast k (λ t. fits_some parts (take (i + 1) rows) t && above after k t) (cond b (Some m) best)) [
            | true ↦ λ l. least-new parts k after rows i p row is best m fit e l least
            | false ↦ λ l. least-old parts k after rows i p row is best m fit l least
          ]) refl
    ]) refl
