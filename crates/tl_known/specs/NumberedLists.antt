-- Lists that give numbers.
use Rattle.std.specs.Prelude.{◌≡◌, ◌⊎◌, ℕ, List, [], ◌∷◌, ◌++◌, slice_get, Some}

-- each item has its number still
abbrev pub Stay : {A : Type 0} → List A → List A → Type 0
Stay {A} old new = (i : ℕ) (x : A) → slice_get old i ≡ Some x → slice_get new i ≡ Some x

-- no item has two numbers
abbrev pub IsOnce : {A : Type 0} → List A → Type 0
IsOnce {A} xs = (i j : ℕ) (x : A) → slice_get xs i ≡ Some x → slice_get xs j ≡ Some x → i ≡ j

-- the list is as before, or has the item as its last one more
abbrev pub IsAdded : {A : Type 0} → List A → A → List A → Type 0
IsAdded old x new = (new ≡ old) ⊎ (new ≡ old ++ x ∷ [])
