-- Each symbol brings at most one text.
use Rattle.std.proofs.Common.{ℕ, ◌+◌, ◌≤◌, List, [], ◌∷◌, ◌++◌, Bool, true, false, cond, length, length-append, arith}
use Rattle.std.specs.List.{list_any}
use Rattle.std.specs.Str.{bytes_eq}
use Rattle.tl_sexpr.specs.Tree.{FormTree, FormTrees, symbol, integer, list, no_form, more_forms}
use Rattle.tl_sexpr.specs.Spelling.{symbols_in, symbols_in_all}
use Rattle.tl_syntax.specs.Texts.{with_text}
use Rattle.tl_rules.specs.Symbols.{names_with, names_with_all}

at_most_one_more : (names : List (List ℕ)) (text : List ℕ) → length (with_text names text) ≤ length names + 1
at_most_one_more names text = one_more (list_any (bytes_eq text) names)
  where
    one_more : (known : Bool) → length (cond known names (names ++ text ∷ [])) ≤ length names + 1
    one_more true = omega arith
    one_more false = omega (arith, length-append names (text ∷ []))

mutual
  pub length-names_with : (names : List (List ℕ)) (form : FormTree) → length (names_with names form) ≤ length names + symbols_in form
  length-names_with names (symbol text at) = at_most_one_more names text
  length-names_with names (integer z at) = omega arith
  length-names_with names (list fs at) = length-names_with_all names fs

  pub length-names_with_all : (names : List (List ℕ)) (forms : FormTrees) →
      length (names_with_all names forms) ≤ length names + symbols_in_all forms
  length-names_with_all names no_form = omega arith
  length-names_with_all names (more_forms f fs) = omega (arith, length-names_with names f, length-names_with_all (names_with names f) fs)
