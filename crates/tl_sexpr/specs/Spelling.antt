-- What it means that bytes spell forms. Ranges of bytes go from their first byte to the one after
-- their last.
use Rattle.std.specs.Prelude.{◌≡◌, ℕ, ◌+◌, ◌<◌, ◌≤◌, ◌⊎◌, ℤ, pos, neg_ℤ, List, [], ◌∷◌, length, Bool, true, false, ◌&&◌, ◌==◌, nat_lt}
use Rattle.std.specs.Prelude.{if◌then◌else◌, IsTrue, slice_index, slice_range, FitsSigned}
use Rattle.std.specs.Int.{w64}
use Rattle.std.specs.Str.{all_ascii_digits}
use Rattle.std.specs.Str.Parse.{digits_value}
use Rattle.tl_sexpr.specs.Bytes.{is_blank, IsInComment, StandsAt, IsTokenAt}
use Rattle.tl_sexpr.specs.Tree.{FormTree, FormTrees, symbol, integer, list, no_form, more_forms}

-- each byte of the range, which may be empty, is a blank or in a comment
pub record IsGap (bytes : List ℕ) (from to : ℕ) : Type 0 where
  pub ordered : from ≤ to
  pub skipped : (k : ℕ) → from ≤ k → k < to → IsTrue (is_blank (slice_index bytes k)) ⊎ IsInComment bytes k

-- a longest run of token bytes outside comments
pub record IsToken (bytes : List ℕ) (from to : ℕ) : Type 0 where
  pub some : from < to
  pub each : (k : ℕ) → from ≤ k → k < to → IsTokenAt bytes k
  pub starts : (k : ℕ) → k + 1 ≡ from → ¬ IsTokenAt bytes k
  pub ends : ¬ IsTokenAt bytes to

-- one or more decimal digits
abbrev pub is_numeral : List ℕ → Bool
is_numeral text = all_ascii_digits text && nat_lt 0 (length text)

-- an optional `-`, and one or more decimal digits
abbrev pub spells_integer : List ℕ → Bool
spells_integer [] = false
spells_integer (c ∷ cs) = if c == 45 then is_numeral cs else is_numeral (c ∷ cs)

-- the whole number that such a text writes
abbrev pub integer_value : List ℕ → ℤ
integer_value [] = pos 0
integer_value (c ∷ cs) = if c == 45 then neg_ℤ (pos (digits_value 10 cs)) else pos (digits_value 10 (c ∷ cs))

-- the range is an item that has so many lists around it, and this is its form; and
-- the range is items with gaps around them, and these are their forms
unfoldable mutual
  pub IsItem : List ℕ → ℕ → ℕ → ℕ → FormTree → Type 0
  IsItem bytes around from to (symbol text at) =
      (at ≡ from) × IsToken bytes from to × (text ≡ slice_range bytes from to) × (spells_integer (slice_range bytes from to) ≡ false)
  IsItem bytes around from to (integer z at) =
      (at ≡ from) × IsToken bytes from to × (spells_integer (slice_range bytes from to) ≡ true) ×
      (z ≡ integer_value (slice_range bytes from to)) × FitsSigned w64 z
  IsItem bytes around from to (list fs at) =
      (at ≡ from) × (around < 100) × StandsAt bytes from 40 × ((close : ℕ) × (to ≡ close + 1) × StandsAt bytes close 41 ×
      AreItems bytes (around + 1) (from + 1) close fs)

  pub AreItems : List ℕ → ℕ → ℕ → ℕ → FormTrees → Type 0
  AreItems bytes around from to no_form = IsGap bytes from to
  AreItems bytes around from to (more_forms f fs) =
      (first : ℕ) × (end : ℕ) × IsGap bytes from first × IsItem bytes around first end f × AreItems bytes around end to fs

-- the bytes spell these forms, of which no list has more than 99 lists around it
abbrev pub Spells : List ℕ → FormTrees → Type 0
Spells bytes fs = AreItems bytes 0 0 (length bytes) fs

-- how many symbols stand in a form, and in forms
abbrev mutual
  pub symbols_in : FormTree → ℕ
  symbols_in (symbol text at) = 1
  symbols_in (integer z at) = 0
  symbols_in (list fs at) = symbols_in_all fs

  pub symbols_in_all : FormTrees → ℕ
  symbols_in_all no_form = 0
  symbols_in_all (more_forms f fs) = symbols_in f + symbols_in_all fs

-- bytes spell at most one list of forms
abbrev pub OneSpelling : Type 0
OneSpelling = (bytes : List ℕ) (fs gs : FormTrees) → Spells bytes fs → Spells bytes gs → fs ≡ gs
