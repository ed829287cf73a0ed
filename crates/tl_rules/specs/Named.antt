-- The symbols of forms: that all of them are among some names, and that one of them has this text.
use Rattle.std.specs.Prelude.{◌≡◌, ◌⊎◌, ℕ, List, IsTrue}
use Rattle.std.specs.List.{list_any}
use Rattle.std.specs.Str.{bytes_eq}
use Rattle.tl_sexpr.specs.Tree.{FormTree, FormTrees, symbol, integer, list, no_form, more_forms}

-- each symbol of a form, and of forms, is one of the names
abbrev mutual
  pub HasNames : List (List ℕ) → FormTree → Type 0
  HasNames names (symbol text at) = IsTrue (list_any (bytes_eq text) names)
  HasNames names (integer z at) = Unit {0}
  HasNames names (list fs at) = HaveNames names fs

  pub HaveNames : List (List ℕ) → FormTrees → Type 0
  HaveNames names no_form = Unit {0}
  HaveNames names (more_forms f fs) = HasNames names f × HaveNames names fs

-- a symbol of a form, and of forms, has this text
abbrev mutual
  pub HasSymbol : FormTree → List ℕ → Type 0
  HasSymbol (symbol other at) text = other ≡ text
  HasSymbol (integer z at) text = ⊥
  HasSymbol (list fs at) text = HaveSymbol fs text

  pub HaveSymbol : FormTrees → List ℕ → Type 0
  HaveSymbol no_form text = ⊥
  HaveSymbol (more_forms f fs) text = HasSymbol f text ⊎ HaveSymbol fs text
