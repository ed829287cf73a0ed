-- The terms and arguments that forms mean, where they mean one.
use Rattle.std.specs.Prelude.{ℕ, List, [], ◌∷◌, Option, Some, None, if◌then◌else◌, option_and_then}
use Rattle.std.specs.Option.{option_map}
use Rattle.tl_sexpr.specs.Tree.{FormTree, FormTrees, symbol, integer, list, no_form, more_forms}
use Rattle.tl_syntax.specs.declared.value.Op.{Op}
use Rattle.tl_syntax.specs.declared.value.Value.TheVariants.{Int, Sym}
use Rattle.tl_syntax.specs.declared.variable.Arg.{Arg}
use Rattle.tl_syntax.specs.declared.variable.Arg.TheVariants as arg
use Rattle.tl_syntax.specs.Trees.{TermTree, TermTrees, value, place, arith, no_term, more_terms}
use Rattle.tl_rules.specs.Both.{option_both}
use Rattle.tl_rules.specs.Parts.{count, is_variable}
use Rattle.tl_rules.specs.Symbols.{number_in}
use Rattle.tl_formulas.specs.MeaningOfTerms.{term_of_argument}
use Rattle.tl_formulas.specs.Signatures.{Table, Scope, place_of, has_arity, slot_of}
use Rattle.tl_formulas.specs.Words.{operation_named}

-- a symbol as an argument: a variable in scope, or a name
abbrev pub symbol_meaning : List (List ℕ) → Scope → List ℕ → Option Arg
symbol_meaning names scope text =
    if is_variable text
    then option_map (λ slot. arg.Var (record { slot = slot; name = number_in names text })) (slot_of scope text)
    else Some (arg.Val (Sym (number_in names text)))

-- an argument; a list is none
abbrev pub argument_meaning : List (List ℕ) → Scope → FormTree → Option Arg
argument_meaning names scope (symbol text at) = symbol_meaning names scope text
argument_meaning names scope (integer z at) = Some (arg.Val (Int z))
argument_meaning names scope (list fs at) = None

-- arguments
abbrev pub arguments_meaning : List (List ℕ) → Scope → FormTrees → Option (List Arg)
arguments_meaning names scope no_form = Some []
arguments_meaning names scope (more_forms f fs) =
    option_both (λ x xs. x ∷ xs) (argument_meaning names scope f) (arguments_meaning names scope fs)

-- the place in a table of a name that has so many arguments
abbrev pub place_for : Table → List ℕ → ℕ → Option ℕ
place_for table text n = option_and_then (λ i. if has_arity table i n then Some i else None) (place_of table text)

-- an operation on two terms, or a function at its place
abbrev pub call_meaning : Option Op → Option ℕ → ℕ → TermTrees → Option TermTree
call_meaning None function at ts = option_map (λ i. place i ts) function
call_meaning (Some op) function at (more_terms t (more_terms u no_term)) = Some (arith op t u at)
call_meaning (Some op) function at _ = None

unfoldable mutual
  -- a term
  pub term_meaning : List (List ℕ) → Table → Scope → FormTree → Option TermTree
  term_meaning names functions scope (symbol text at) = option_map term_of_argument (symbol_meaning names scope text)
  term_meaning names functions scope (integer z at) = Some (value (Int z))
  term_meaning names functions scope (list no_form at) = None
  term_meaning names functions scope (list (more_forms (symbol text _) rest) at) =
      option_and_then (call_meaning (operation_named text) (place_for functions text (count rest)) at)
      (terms_meaning names functions scope rest)
  term_meaning names functions scope (list (more_forms (integer z _) rest) at) = None
  term_meaning names functions scope (list (more_forms (list fs _) rest) at) = None

  -- terms
  pub terms_meaning : List (List ℕ) → Table → Scope → FormTrees → Option TermTrees
  terms_meaning names functions scope no_form = Some no_term
  terms_meaning names functions scope (more_forms f fs) =
      option_both more_terms (term_meaning names functions scope f) (terms_meaning names functions scope fs)
