-- The symbols of a file, which become names, and the numbers of names.
use Rattle.std.specs.Prelude.{◌≡◌, ◌<◌, ◌+◌, ◌^◌, ℕ, List, ◌++◌, length, unwrap_or}
use Rattle.tl_sexpr.specs.Spelling.{symbols_in_all}
use Rattle.tl_sexpr.specs.Tree.{FormTree, FormTrees, symbol, integer, list, no_form, more_forms}
use Rattle.tl_syntax.specs.Texts.{with_text, number_of}

-- the texts with each symbol of a form, and of forms, in reading order
abbrev mutual
  pub names_with : List (List ℕ) → FormTree → List (List ℕ)
  names_with names (symbol text at) = with_text names text
  names_with names (integer z at) = names
  names_with names (list fs at) = names_with_all names fs

  pub names_with_all : List (List ℕ) → FormTrees → List (List ℕ)
  names_with_all names no_form = names
  names_with_all names (more_forms f fs) = names_with_all (names_with names f) fs

-- the names and the symbols of forms together have numbers of 32 bits
abbrev pub HaveRoom : List (List ℕ) → FormTrees → Type 0
HaveRoom names forms = length names + symbols_in_all forms < 2 ^ 32

-- the number of a text, or the one that it would get if it is not there yet
abbrev pub number_in : List (List ℕ) → List ℕ → ℕ
number_in names text = unwrap_or (number_of names text) (length names)

-- the first texts begin with the second ones, so that each of these keeps its number
abbrev pub BeginsWith : List (List ℕ) → List (List ℕ) → Type 0
BeginsWith names old = (more : List (List ℕ)) × (names ≡ old ++ more)
