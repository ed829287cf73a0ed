-- One number for one tree, also after a call.
use Rattle.std.specs.Prelude.{◌≡◌, ℕ, List, slice_get, Some}
use Rattle.tl_syntax.specs.Trees.{FormulaTree}

-- different numbers denote different trees
abbrev pub OneToOne : List FormulaTree → Type 0
OneToOne ts = (i j : ℕ) (t : FormulaTree) → slice_get ts i ≡ Some t → slice_get ts j ≡ Some t → i ≡ j

-- every number that was given keeps its tree
abbrev pub Keeps : List FormulaTree → List FormulaTree → Type 0
Keeps old new = (i : ℕ) (t : FormulaTree) → slice_get old i ≡ Some t → slice_get new i ≡ Some t
