-- Lists of variables, one variable at a time.
use Rattle.std.proofs.Common.{◌≡◌, ◌≢◌, ℕ, List, [], ◌∷◌, ◌++◌, Bool, true, false, refl, Some, None}
use Rattle.std.specs.Prelude.{◌&&◌}
use Rattle.tl_sexpr.specs.Tree.{FormTree, FormTrees, symbol, integer, list, no_form, more_forms}
use Rattle.tl_formulas.specs.Signatures.{Scope}
use Rattle.tl_rules.specs.Parts.{symbol_text, texts_of, offset_of, count, are_variables, is_variable_list}
use Rattle.tl_formulas.specs.Variables.{variable_breaks, variables_breaks}

-- the breaks of a variable and of those after it
pub variables-next : (earlier scope : Scope) (bound f : FormTree) (fs : FormTrees) (text : List ℕ) → symbol_text f ≡ Some text →
    variables_breaks earlier scope bound (more_forms f fs) ≡ variable_breaks earlier scope bound text (offset_of f) ++
    variables_breaks (earlier ++ text ∷ []) scope bound fs
variables-next earlier scope bound (symbol t at) fs text is = cc
variables-next earlier scope bound (integer z at) fs text is = cc
variables-next earlier scope bound (list gs at) fs text is = cc

-- the texts of a variable and of those after it
pub texts-next : (f : FormTree) (fs : FormTrees) (text : List ℕ) → symbol_text f ≡ Some text → texts_of (more_forms f fs) ≡ text ∷
    texts_of fs
texts-next (symbol t at) fs text is = cc
texts-next (integer z at) fs text is = cc
texts-next (list gs at) fs text is = cc

-- a form that is no symbol gives no text
pub texts-skip : (f : FormTree) (fs : FormTrees) → symbol_text f ≡ None → texts_of (more_forms f fs) ≡ texts_of fs
texts-skip (symbol t at) fs is = cc
texts-skip (integer z at) fs is = refl
texts-skip (list gs at) fs is = refl

-- the first of variables is a symbol
pub first-symbol : (f : FormTree) (fs : FormTrees) → are_variables (more_forms f fs) ≡ true → symbol_text f ≡ None → ⊥
first-symbol (symbol t at) fs all none = cc
first-symbol (integer z at) fs all none = cc
first-symbol (list gs at) fs all none = cc

pub later-variables : (f : FormTree) (fs : FormTrees) → are_variables (more_forms f fs) ≡ true → are_variables fs ≡ true
later-variables (symbol t at) fs all = second _ _ all
  where
    second : (a b : Bool) → (a && b) ≡ true → b ≡ true
    second true b e = e
    second false b e = cc
later-variables (integer z at) fs all = cc
later-variables (list gs at) fs all = cc

-- a list of variables, by its elements
pub listed-variables : (fs : FormTrees) (at other : ℕ) → is_variable_list (list fs other) ≡ true → are_variables fs ≡ true
listed-variables no_form at other is = cc
listed-variables (more_forms f fs) at other is = is

-- the offset of a list of variables does not matter
pub variable_list-offset : (fs : FormTrees) (at other : ℕ) → is_variable_list (list fs at) ≡ is_variable_list (list fs other)
variable_list-offset no_form at other = refl
variable_list-offset (more_forms f fs) at other = refl

-- forms of which there are some are a list of variables where each is one
pub some-variables : (fs : FormTrees) (at : ℕ) → count fs ≢ 0 → is_variable_list (list fs at) ≡ are_variables fs
some-variables no_form at some = absurd (some refl)
some-variables (more_forms f fs) at some = refl

pub ruleset variable_lists = (variables-next, texts-next, texts-skip, first-symbol, later-variables)
