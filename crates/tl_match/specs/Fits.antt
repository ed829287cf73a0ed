-- When a tuple makes the parts of a pattern a row.
use Rattle.std.specs.Prelude.{◌≡◌, ◌<◌, ℕ, List, [], ◌∷◌, Bool, true, false, ◌&&◌, ◌||◌, ◌==◌, Option, Some, None, slice_get}
use Rattle.std.specs.Prelude.{slice_index_or, length, take, ◌-◌}
use Rattle.tl_syntax.specs.declared.value.Value.{Value}
use Rattle.tl_syntax.specs.DerivedTests.{value_eq}
use Rattle.tl_match.specs.declared.pattern.Match.{Match}
use Rattle.tl_match.specs.declared.pattern.Part.{Part}
use Rattle.tl_match.specs.declared.pattern.Part.TheVariants.{Fixed, Free}

-- whether the value is there and is v
abbrev pub is_value : Option Value → Value → Bool
is_value None v = false
is_value (Some u) v = value_eq u v

-- whether the part is v under the tuple's values
abbrev pub fits_at : Part → Value → List Value → Bool
fits_at (Fixed u) v t = value_eq u v
fits_at (Free n) v t = is_value (slice_get t n) v

-- whether the parts are the row under the tuple's values
abbrev pub fits_all : List Part → List Value → List Value → Bool
fits_all [] [] t = true
fits_all [] (v ∷ vs) t = false
fits_all (p ∷ ps) [] t = false
fits_all (p ∷ ps) (v ∷ vs) t = fits_at p v t && fits_all ps vs t

-- whether the part is the variable n
abbrev pub is_free : ℕ → Part → Bool
is_free n (Fixed u) = false
is_free n (Free m) = m == n

-- whether the variable n is one of the parts
abbrev pub occurs : ℕ → List Part → Bool
occurs n [] = false
occurs n (p ∷ ps) = is_free n p || occurs n ps

-- the values are those of every tuple that fits
unfoldable pub Known : List Part → List Value → List Value → Type 0
Known ps vs values = (t : List Value) → fits_all ps vs t ≡ true → (n : ℕ) → n < 9 → occurs n ps ≡ true → slice_get values n ≡ slice_get t n

-- m is the one tuple of k values that makes the parts the row
abbrev pub IsMatch : List Part → List Value → ℕ → Option Match → Type 0
IsMatch ps vs k None = (t : List Value) → length t ≡ k → fits_all ps vs t ≡ false
IsMatch ps vs k (Some m) = (m.len ≡ k) × (length (take k m.values) ≡ k) × (fits_all ps vs (take k m.values) ≡ true) ×
    ((t : List Value) → length t ≡ k → fits_all ps vs t ≡ true → take k m.values ≡ t)

-- the tuple begins with the first n of the values
abbrev pub BeginsAs : ℕ → List Value → List Value → Type 0
BeginsAs n values t = (m : ℕ) → m < n → slice_get values m ≡ slice_get t m

-- every tuple that begins with the first n of the values makes the part v
abbrev pub EachFitsAt : Part → Value → ℕ → List Value → Type 0
EachFitsAt p v n values = (t : List Value) → BeginsAs n values t → fits_at p v t ≡ true

-- no such tuple makes the part v
abbrev pub NoneFitsAt : Part → Value → ℕ → List Value → Type 0
NoneFitsAt p v n values = (t : List Value) → BeginsAs n values t → fits_at p v t ≡ false

-- every tuple that begins with the first n of the values makes the parts the row
abbrev pub EachFits : List Part → List Value → ℕ → List Value → Type 0
EachFits ps row n values = (t : List Value) → BeginsAs n values t → fits_all ps row t ≡ true

-- every tuple that makes the parts the row begins with them
abbrev pub EachBegins : List Part → List Value → ℕ → List Value → Type 0
EachBegins ps row n values = (t : List Value) → fits_all ps row t ≡ true → BeginsAs n values t

-- whether the parts are the row before the place under the tuple's values
abbrev pub fits_before : List Part → List (List Value) → ℕ → List Value → Bool
fits_before ps rows at t = fits_all ps (slice_index_or rows (at - 1) []) t
