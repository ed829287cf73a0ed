-- From where the rows have the tuples after one, where the variables first stand in the order of their numbers.
use Rattle.std.proofs.Common.{◌≡◌, ℕ, ◌<◌, ◌+◌, true, true≢false, List, [], ◌∷◌, length, get_or, drop, Some, Less, Equal, Greater, refl}
use Rattle.std.proofs.Common.{sym, ap, ◌∙◌, subst, ◌⊎◌, inl, inr, Bool, false, ◌&&◌, take, Option}
use Rattle.std.specs.Prelude.{slice_get}
use Rattle.std.specs.Ordering.{is_lt}
use Rattle.std.specs.Cmp.{tied_itself}
use Rattle.tl_syntax.specs.declared.value.Value.{Value}
use Rattle.tl_syntax.proofs.Plain.{value-tells, both}
use Rattle.tl_match.specs.declared.pattern.Match.{Match}
use Rattle.tl_match.specs.declared.pattern.Part.{Part}
use Rattle.tl_match.specs.declared.pattern.Part.TheVariants.{Fixed, Free}
use Rattle.tl_rows.specs.Plain.{row_cmp}
use Rattle.tl_match.specs.Fits.{fits_at, fits_all, occurs}
use Rattle.tl_match.specs.Front.{front, front_cmp, are_in_turn}
use Rattle.tl_match.specs.Least.{IsLeast, fits_some, above, is_later, HasLater, match_in_place}
use Rattle.tl_match.proofs.Fronts.{earlier-too, later-too}
use Rattle.tl_match.proofs.Least.{least-same}
use Rattle.tl_rows.proofs.Lookup.{row_total}
use Rattle.tl_rows.proofs.Lent.{row_ties}
use Rattle.tl_match.proofs.Matching.{is_value-some, fits-lengths}
use Rattle.tl_match.proofs.RowsAlike.{IsAbove, RisesAlike, alike-before, alike-after}
use Rattle.tl_match.proofs.Turns.{ordered, only-so}

-- one tuple makes the parts one row at most
fits-one : (ps : List Part) (x y t : List Value) → fits_all ps x t ≡ true → fits_all ps y t ≡ true → x ≡ y
fits-one [] [] [] t h g = refl
fits-one [] [] (v ∷ y) t h g = absurd (true≢false (sym g))
fits-one [] (u ∷ x) y t h g = absurd (true≢false (sym h))
fits-one (p ∷ ps) [] y t h g = absurd (true≢false (sym h))
fits-one (p ∷ ps) (u ∷ x) [] t h g = absurd (true≢false (sym g))
fits-one (p ∷ ps) (u ∷ x) (v ∷ y) t h g =
    let a = both (fits_at p u t) (fits_all ps x t) h in
    let b = both (fits_at p v t) (fits_all ps y t) g in
    λ i. one p u v a.0 b.0 i ∷ fits-one ps x y t a.1 b.1 i
  where
    one : (p : Part) (u v : Value) → fits_at p u t ≡ true → fits_at p v t ≡ true → u ≡ v
    one (Fixed w) u v h g = sym ((value-tells w u).0 h) ∙ (value-tells w v).0 g
    one (Free n) u v h g = let e : Some u ≡ Some v = sym (is_value-some (slice_get t n) u h) ∙ is_value-some (slice_get t n) v g in cc

module _ (parts : List Part) (k : ℕ) (turn : are_in_turn 0 parts ≡ true) (each : (n : ℕ) → n < k → occurs n parts ≡ true)
    (slots : (n : ℕ) → occurs n parts ≡ true → n < k) (a : List Value) (size : length a ≡ k) (r : List Value)
    (here : fits_all parts r a ≡ true) where
  as-long : (y t : List Value) → fits_all parts y t ≡ true → length r ≡ length y
  as-long y t fit = sym (fits-lengths parts r a here) ∙ fits-lengths parts y t fit

  front-ties : front_cmp (front 0 parts a) r ≡ Equal
  front-ties = ordered parts k turn each slots r a a size size here ∙ tied_itself row_total a

  -- a later row has a later tuple
  later-fits : (y t : List Value) → length t ≡ k → IsAbove r y → fits_all parts y t ≡ true → is_later true a t ≡ true
  later-fits y t st above fit =
      let less : row_cmp r y ≡ Less = above (as-long y t fit) in
      (elim (row_cmp a t) as (λ o. row_cmp a t ≡ o → is_lt o ≡ true) [
        | Less ↦ λ _. refl
        | Equal ↦ λ e. let same : r ≡ y = fits-one parts r y t (subst (λ u. fits_all parts r u ≡ true) (row_ties a t e) here) fit in
            let d : Less ≡ Equal = sym less ∙ (ap (row_cmp r) (sym same) ∙ tied_itself row_total r) in cc
        | Greater ↦ λ e. let d : Greater ≡ Equal = sym (earlier-too (front 0 parts a) r y less
            (ordered parts k turn each slots y a t size st fit ∙ e)) ∙ front-ties in cc
      ]) refl

  -- the row and those before it have no later tuple
  no-later : (y t : List Value) → length t ≡ k → (r ≡ y) ⊎ IsAbove y r → fits_all parts y t ≡ true → is_later true a t ≡ false
  no-later y t st (inl e) fit = ap is_lt (sym (ordered parts k turn each slots y a t size st fit) ∙
      (ap (front_cmp (front 0 parts a)) (sym e) ∙ front-ties))
  no-later y t st (inr above) fit =
      let less : row_cmp y r ≡ Less = above (sym (as-long y t fit)) in
      (elim (row_cmp a t) as (λ o. row_cmp a t ≡ o → is_lt o ≡ false) [
        | Less ↦ λ e. let d : Less ≡ Equal = sym (later-too (front 0 parts a) y r less
            (ordered parts k turn each slots y a t size st fit ∙ e)) ∙ front-ties in cc
        | Equal ↦ λ e. refl
        | Greater ↦ λ e. refl
      ]) refl

  -- the rows after that of the tuple in place
  pub after-row : (rows : List (List Value)) (i j : ℕ) → j ≡ i + 1 → i < length rows → r ≡ get_or rows i r → RisesAlike rows →
      HasLater parts true a rows j
  after-row rows i j e p is rises t st =
      only-so parts k turn each slots true a size rows j (λ y. (r ≡ y) ⊎ IsAbove y r) (IsAbove r) no-later
      (alike-before rows i j r e p is rises) later-fits (alike-after rows i j r e p is rises) t st

later-above : (begun : Bool) (m : Match) (k : ℕ) (t : List Value) → is_later begun (take k m.values) t ≡ above (match_in_place begun m) k t
later-above true m k t = refl
later-above false m k t = refl

-- the least tuple of the rows from the place on
pub least-later : (parts : List Part) (rows : List (List Value)) (k : ℕ) (begun : Bool) (m : Match) (i : ℕ) (found : Option Match) →
    length (take k m.values) ≡ k → HasLater parts begun (take k m.values) rows i
    → IsLeast k (λ t. fits_some parts (drop i rows) t) found → IsLeast k
    (λ t. fits_some parts rows t && above (match_in_place begun m) k t) found
least-later parts rows k begun m i found size later =
    least-same k found (λ t. fits_some parts (drop i rows) t) (λ t. fits_some parts rows t && above (match_in_place begun m) k t)
    (λ t st. later t (st ∙ sym size) ∙ ap (λ b. fits_some parts rows t && b) (later-above begun m k t))
