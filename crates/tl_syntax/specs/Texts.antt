-- Texts that are numbered by their places in a list, as in a symbol table. A text is its bytes.
use Rattle.std.specs.Prelude.{◌≡◌, ◌<◌, ◌^◌, ℕ, List, [], ◌∷◌, ◌++◌, length, Option, Some, if◌then◌else◌, slice_get}
use Rattle.std.specs.List.{list_any, position}
use Rattle.std.specs.Str.{bytes_eq}

-- the texts with this one, at the end where it is new
abbrev pub with_text : List (List ℕ) → List ℕ → List (List ℕ)
with_text names text = if list_any (bytes_eq text) names then names else names ++ text ∷ []

-- the number of the text, where it has one
abbrev pub number_of : List (List ℕ) → List ℕ → Option ℕ
number_of names text = position (bytes_eq text) names

-- no text stands at two places
abbrev pub AreDistinct : List (List ℕ) → Type 0
AreDistinct names = (i j : ℕ) (text : List ℕ) → slice_get names i ≡ Some text → slice_get names j ≡ Some text → i ≡ j

-- a table of these texts: they differ, their numbers fit 32 bits, and a look-up gives each text its
-- number
pub record IsNumbered (names : List (List ℕ)) (looked_up : List ℕ → Option ℕ) : Type 0 where
  pub numbered : (text : List ℕ) → looked_up text ≡ number_of names text
  pub distinct : AreDistinct names
  pub few : length names < 2 ^ 32
