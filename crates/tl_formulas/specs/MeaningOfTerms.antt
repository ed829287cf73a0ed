-- The terms and arguments that forms stand for. Where a form breaks a rule, what is said of it here
-- does not matter.
use Rattle.std.specs.Prelude.{ℕ, pos, List, [], ◌∷◌, Option, Some, None, if◌then◌else◌, unwrap_or}
use Rattle.tl_sexpr.specs.Tree.{FormTree, FormTrees, symbol, integer, list, no_form, more_forms}
use Rattle.tl_syntax.specs.declared.value.Op.{Op}
use Rattle.tl_syntax.specs.declared.value.Value.TheVariants.{Int, Sym}
use Rattle.tl_syntax.specs.declared.variable.Var.{Var}
use Rattle.tl_syntax.specs.declared.variable.Arg.{Arg}
use Rattle.tl_syntax.specs.declared.variable.Arg.TheVariants as arg
use Rattle.tl_syntax.specs.Trees.{TermTree, TermTrees, variable, value, place, arith, no_term, more_terms}
use Rattle.tl_rules.specs.Parts.{is_variable}
use Rattle.tl_formulas.specs.Words.{operation_named}
use Rattle.tl_formulas.specs.Signatures.{Table, Scope, place_of, slot_of}
use Rattle.tl_rules.specs.Symbols.{number_in}

-- a variable in scope
abbrev pub variable_meant : List (List ℕ) → Scope → List ℕ → Var
variable_meant names scope text = record { slot = unwrap_or (slot_of scope text) 0; name = number_in names text }

-- a symbol as an argument
abbrev pub symbol_meant : List (List ℕ) → Scope → List ℕ → Arg
symbol_meant names scope text = if is_variable text then arg.Var (variable_meant names scope text) else arg.Val (Sym (number_in names text))

-- an argument
abbrev pub argument_meant : List (List ℕ) → Scope → FormTree → Arg
argument_meant names scope (symbol text at) = symbol_meant names scope text
argument_meant names scope (integer z at) = arg.Val (Int z)
argument_meant names scope (list fs at) = arg.Val (Int (pos 0))

-- arguments
abbrev pub arguments_meant : List (List ℕ) → Scope → FormTrees → List Arg
arguments_meant names scope no_form = []
arguments_meant names scope (more_forms f fs) = argument_meant names scope f ∷ arguments_meant names scope fs

-- an argument as a term
abbrev pub term_of_argument : Arg → TermTree
term_of_argument (arg.Var v) = variable v
term_of_argument (arg.Val v) = value v

-- the first and the second of terms
abbrev pub first_term : TermTrees → TermTree
first_term no_term = value (Int (pos 0))
first_term (more_terms t ts) = t

abbrev pub second_term : TermTrees → TermTree
second_term no_term = value (Int (pos 0))
second_term (more_terms t ts) = first_term ts

-- the term of a list that begins with an operation, or with the function at this place
abbrev pub call_meant : Option Op → Option ℕ → TermTrees → ℕ → TermTree
call_meant (Some op) function ts at = arith op (first_term ts) (second_term ts) at
call_meant None function ts at = place (unwrap_or function 0) ts

unfoldable mutual
  -- a term
  pub term_meant : List (List ℕ) → Table → Scope → FormTree → TermTree
  term_meant names functions scope (symbol text at) = term_of_argument (symbol_meant names scope text)
  term_meant names functions scope (integer z at) = value (Int z)
  term_meant names functions scope (list fs at) = term_list_meant names functions scope fs at

  -- a term by the elements of its list and its offset
  pub term_list_meant : List (List ℕ) → Table → Scope → FormTrees → ℕ → TermTree
  term_list_meant names functions scope no_form at = value (Int (pos 0))
  term_list_meant names functions scope (more_forms (symbol text _) rest) at =
      call_meant (operation_named text) (place_of functions text) (terms_meant names functions scope rest) at
  term_list_meant names functions scope (more_forms (integer z _) rest) at = value (Int (pos 0))
  term_list_meant names functions scope (more_forms (list fs _) rest) at = value (Int (pos 0))

  -- terms
  pub terms_meant : List (List ℕ) → Table → Scope → FormTrees → TermTrees
  terms_meant names functions scope no_form = no_term
  terms_meant names functions scope (more_forms f fs) =
      more_terms (term_meant names functions scope f) (terms_meant names functions scope fs)
