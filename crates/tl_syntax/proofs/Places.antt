-- Facts on the places of items: where items differ, in another order, and under a map.
use Rattle.std.proofs.Common.{◌≡◌, ◌<◌, ◌+◌, ℕ, zero, suc, List, [], ◌∷◌, ◌++◌, map, take, length, Some, refl, sym, ap, ◌∙◌, arith, get_or}
use Rattle.std.specs.Prelude.{IsPermutation}
use Rattle.std.specs.List.{slice_get, swap, Contains}
use Rattle.std.specs.Option.{option_map}
use Rattle.std.proofs.lemmas.Grind.{common_steps}
use Rattle.std.proofs.lemmas.List.{map-append}
use Rattle.std.proofs.lemmas.Option.{slice_get-get_or, slice_get_within, slice_get_read, get_or_from_slice_get, slice_get-map, same_Some}
use Rattle.std.proofs.lemmas.Option.{none-some, gets}
use Rattle.std.proofs.lemmas.List.Edits.{Swapped, swapped_from_swap, length-swap}
use Rattle.std.proofs.lemmas.List.Sorted.{IsPermutation-keeps, Contains-permutation}
use Rattle.std.proofs.lemmas.Bool.Decides.{nat_tests}
use Rattle.tl_syntax.specs.Settled.{Differ}

module _ {A : Type 0} where
  -- `Differ`, read at a default
  abbrev pub Apart : List A → A → Type 0
  Apart xs d = (i j : ℕ) → i < length xs → j < length xs → get_or xs i d ≡ get_or xs j d → i ≡ j

  -- items that differ, read at a default
  pub apart : (xs : List A) (d : A) → Differ xs → Apart xs d
  apart xs d differ i j in_i in_j same = differ i j (get_or xs i d) (slice_get-get_or xs i d in_i)
      (slice_get-get_or xs j d in_j ∙ ap (λ (x : A). Some x) (sym same))

  -- an exchange keeps items apart
  Apart-swapped : (xs ys : List A) (a b : ℕ) (d : A) → a < length xs → b < length xs → length ys ≡ length xs →
      Swapped (λ i. get_or xs i d) (λ i. get_or ys i d) a b → Apart xs d → Apart ys d
  Apart-swapped xs ys a b d in_a in_b same_length swapped distinct i j in_i in_j same =
      grind (
        arith,
        nat_tests,
        swapped.0,
        swapped.1,
        swapped.2 i,
        swapped.2 j,
        distinct i j,
        distinct a b,
        distinct i a,
        distinct i b,
        distinct a j,
        distinct b j,
      )

  -- items that differ also differ after an exchange
  Differ-swap : (xs : List A) (i j : ℕ) → i < length xs → j < length xs → Differ xs → Differ (swap xs i j)
  Differ-swap xs a b in_a in_b differ = λ i j x at_i at_j.
      Apart-swapped xs (swap xs a b) a b x in_a in_b (length-swap xs a b) (swapped_from_swap xs (swap xs a b) a b x in_a in_b refl)
      (apart xs x differ) i j
      (slice_get_within (swap xs a b) i x at_i) (slice_get_within (swap xs a b) j x at_j)
      (get_or_from_slice_get (swap xs a b) i x x at_i ∙ sym (get_or_from_slice_get (swap xs a b) j x x at_j))

  -- items that differ also differ in another order
  pub Differ-permutation : (xs ys : List A) → IsPermutation xs ys → Differ xs → Differ ys
  Differ-permutation xs ys moved differ = IsPermutation-keeps xs (λ l. Differ l) differ
      (λ l i j in_i in_j d. Differ-swap l i j in_i in_j d) ys moved

  -- an item of a list stands somewhere in the list in another order
  pub place_in : (xs ys : List A) (i : ℕ) (x : A) → IsPermutation xs ys → slice_get xs i ≡ Some x → (k : ℕ) × (k < length ys) ×
      (slice_get ys k ≡ Some x)
  place_in xs ys i x moved at =
      let found : Contains ys x = Contains-permutation xs ys x moved (i, slice_get_within xs i x at, get_or_from_slice_get xs i x x at) in
      (found.0, found.1, slice_get_read ys (length ys) found.0 x refl found.1 (sym found.2))

module _ {A B : Type 0} (f : A → B) where
  -- an item of a mapped list is the image of one
  pub source_of : (xs : List A) (i : ℕ) (y : B) → slice_get (map f xs) i ≡ Some y → (x : A) × (slice_get xs i ≡ Some x) × (f x ≡ y)
  source_of [] i y at = absurd (none-some y at)
  source_of (x ∷ xs) zero y at = (x, refl, same_Some (f x) y at)
  source_of (x ∷ xs) (suc i) y at = source_of xs i y at

  -- the image of an item stands where the item stood
  pub image_at : (xs : List A) (i : ℕ) (x : A) → slice_get xs i ≡ Some x → slice_get (map f xs) i ≡ Some (f x)
  image_at xs i x at = slice_get-map f xs i ∙ ap (option_map f) at

-- the items up to the next place
pub take-next : {A : Type 0} (xs : List A) (k : ℕ) (x : A) → slice_get xs k ≡ Some x → take (k + 1) xs ≡ take k xs ++ x ∷ []
take-next xs k x at = grind (arith, common_steps, gets)

-- the image of an item that was read
pub read_at : {X Y : Type 0} (f : X → Y) (xs : List X) (k : ℕ) (x : X) (y : Y) → k < length xs → x ≡ get_or xs k x → y ≡ f x →
    slice_get (map f xs) k ≡ Some y
read_at f xs k x y within is same = image_at f xs k x (slice_get_read xs (length xs) k x refl within is) ∙ ap (λ (z : _). Some z) (sym same)

-- one more image is put at the end
pub images-more : {X Y Z : Type 0} (f : X → Z) (g : Y → Z) (xs : List X) (ys : List Y) (k : ℕ) (x : X) (y : Y) → k < length xs → x ≡
    get_or xs k x → map g ys ≡ take k (map f xs) → g y ≡ f x → map g (ys ++ y ∷ []) ≡ take (k + 1) (map f xs)
images-more f g xs ys k x y within is so_far same =
    map-append g ys (y ∷ []) ∙ ap (λ (zs : List _). zs ++ g y ∷ []) so_far ∙
    sym (take-next (map f xs) k (g y) (read_at f xs k x (g y) within is same))
