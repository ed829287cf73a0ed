-- Facts on texts that are numbered anew.
use Rattle.std.proofs.Common.{◌≡◌, ◌<◌, ◌+◌, ◌⊎◌, inl, inr, ℕ, List, [], ◌∷◌, ◌++◌, map, take, length, set, Option, Some, None, refl, sym}
use Rattle.std.proofs.Common.{ap, ◌∙◌, subst, arith, length-set}
use Rattle.std.specs.Prelude.{IsPermutation}
use Rattle.std.specs.List.{slice_get}
use Rattle.std.proofs.lemmas.Grind.{common_steps}
use Rattle.std.proofs.lemmas.List.{get_or-set_same, get_or-set_other, map-append, length-map}
use Rattle.std.proofs.lemmas.Option.{slice_get-get_or, slice_get_within, get_or_from_slice_get, same_Some, gets}
use Rattle.std.proofs.lemmas.List.Sorted.{IsPermutation-map, IsPermutation-sym, length_permutation}
use Rattle.tl_syntax.specs.Settled.{Renumbers, Differ, AreTheirPlaces, AreBelow, GivesPlaces}
use Rattle.tl_syntax.specs.Texts.{AreDistinct, number_of}
use Rattle.tl_syntax.proofs.Texts.{number_of-Some}
use Rattle.tl_syntax.proofs.Places.{Differ-permutation, place_in, source_of, image_at}

-- numbers that are their own places differ
pub Differ-counted : (numbers : List ℕ) → AreTheirPlaces numbers → Differ numbers
Differ-counted numbers counted = λ i j n at_i at_j. sym (counted i n at_i) ∙ counted j n at_j

-- a number that is put at the end, where it is its own place
pub AreTheirPlaces-push : (numbers : List ℕ) (n : ℕ) → AreTheirPlaces numbers → n ≡ length numbers → AreTheirPlaces (numbers ++ n ∷ [])
AreTheirPlaces-push numbers n counted last = λ k m at. grind (arith, common_steps, gets, counted k m)

-- one more number is put at the end, at its own place
pub counted-more : {Y : Type 0} (g : Y → ℕ) (ys : List Y) (y : Y) → AreTheirPlaces (map g ys) → g y ≡ length ys →
    AreTheirPlaces (map g (ys ++ y ∷ []))
counted-more g ys y counted last = rw map-append (AreTheirPlaces-push (map g ys) (g y) counted (last ∙ sym (length-map ys g)))

-- a number that was written stands there
slice_get-set_same : (places : List ℕ) (n k : ℕ) → n < length places → slice_get (set places n k) n ≡ Some k
slice_get-set_same places n k within =
    let inside : n < length (set places n k) = rw length-set within in
    slice_get-get_or (set places n k) n 0 inside ∙ ap (λ (v : ℕ). Some v) (get_or-set_same places n k 0 within)

-- the other numbers stay
slice_get-set_other : (places : List ℕ) (n k m j : ℕ) → (m ≡ n → ⊥) → slice_get places m ≡ Some j → slice_get (set places n k) m ≡ Some j
slice_get-set_other places n k m j other at =
    let within : m < length places = slice_get_within places m j at in
    let inside : m < length (set places n k) = rw length-set within in
    slice_get-get_or (set places n k) m 0 inside ∙ ap (λ (v : ℕ). Some v)
    (get_or-set_other places n m k 0 other ∙ get_or_from_slice_get places m j 0 at)

-- one more number is given its place
pub GivesPlaces-more : (places numbers : List ℕ) (k n : ℕ) → Differ numbers → slice_get numbers k ≡ Some n → n < length places →
    GivesPlaces places numbers k → GivesPlaces (set places n k) numbers (k + 1)
GivesPlaces-more places numbers k n differ at within given = λ j m below at_j. elim (earlier_or_last j k below) [
  | inl before ↦
      let gave : slice_get places m ≡ Some j = given j m before at_j in
      let other : m ≡ n → ⊥ = λ same. absurd (not_before j k before (differ j k n
      (subst (λ (v : ℕ). slice_get numbers j ≡ Some v) same at_j) at)) in
      slice_get-set_other places n k m j other gave
  | inr last ↦
      let same : n ≡ m = same_Some n m (sym at ∙ ap (slice_get numbers) (sym last) ∙ at_j) in
      subst (λ (v : ℕ). slice_get (set places n k) v ≡ Some j) same (slice_get-set_same places n k within ∙
      ap (λ (v : ℕ). Some v) (sym last))
]
  where
    earlier_or_last : (j k : ℕ) → j < k + 1 → (j < k) ⊎ (j ≡ k)
    earlier_or_last j k below = grind arith

    not_before : (j k : ℕ) → j < k → j ≡ k → ⊥
    not_before j k before same = omega arith

-- a text that stands later has no number yet
pub number_of-later : (names : List (List ℕ)) (k : ℕ) (text : List ℕ) → AreDistinct names → slice_get names k ≡ Some text →
    number_of (take k names) text ≡ None
number_of-later names k text distinct at = by_answer (number_of (take k names) text) refl
  where
    earlier : (m : ℕ) → slice_get (take k names) m ≡ Some text → (m < k) × (slice_get names m ≡ Some text)
    earlier m at_m = grind (arith, common_steps, gets)

    by_answer : (answer : Option ℕ) → number_of (take k names) text ≡ answer → number_of (take k names) text ≡ None
    by_answer None absent = absent
    by_answer (Some m) found =
        let before = earlier m (number_of-Some (take k names) text m found) in
        let same : m ≡ k = distinct m k text before.1 at in
        absurd (omega (arith, before.0, same))

module _ {X : Type 0} (text : X → List ℕ) (number : X → ℕ) (old new : List X) (moved : IsPermutation old new) where
  -- the numbers of entries that were counted differ in any order
  pub Differ-moved : AreTheirPlaces (map number old) → Differ (map number new)
  Differ-moved counted = Differ-permutation (map number old) (map number new) (IsPermutation-map number old new moved)
      (Differ-counted (map number old) counted)

  -- and none is past the end
  pub AreBelow-moved : AreTheirPlaces (map number old) → AreBelow (length new) (map number new)
  AreBelow-moved counted = λ k n at.
      let entry = source_of number new k n at in
      let place = place_in new old k entry.0 (IsPermutation-sym old new moved) entry.1 in
      let value : number entry.0 ≡ place.0 = counted place.0 (number entry.0) (image_at number old place.0 entry.0 place.2) in
      let same_length : length new ≡ length old = length_permutation old new moved in
      let is : number entry.0 ≡ n = entry.2 in
      omega (arith, place.1, value, same_length, is)

  -- the texts differ in any order
  pub AreDistinct-moved : AreDistinct (map text old) → AreDistinct (map text new)
  AreDistinct-moved distinct = Differ-permutation (map text old) (map text new) (IsPermutation-map text old new moved) distinct

  -- a list that gives each number its place renumbers the texts
  pub Renumbers-moved : (places : List ℕ) → AreTheirPlaces (map number old) → GivesPlaces places (map number new) (length new) →
      Renumbers places (map text old) (map text new)
  Renumbers-moved places counted given = λ i t at.
      let entry = source_of text old i t at in
      let counts : number entry.0 ≡ i = counted i (number entry.0) (image_at number old i entry.0 entry.1) in
      let place = place_in old new i entry.0 moved entry.1 in
      let gives : slice_get places (number entry.0) ≡ Some place.0 = given place.0 (number entry.0) place.1
      (image_at number new place.0 entry.0 place.2) in
      let stands : slice_get (map text new) place.0 ≡ Some (text entry.0) = image_at text new place.0 entry.0 place.2 in
      (place.0, subst (λ (v : ℕ). slice_get places v ≡ Some place.0) counts gives, stands ∙ ap (λ (z : List ℕ). Some z) entry.2)
