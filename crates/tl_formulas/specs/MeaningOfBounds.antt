-- The bounds that forms stand for. Where a form breaks a rule, what is said of it here does not
-- matter.
use Rattle.std.specs.Prelude.{ℕ, List, [], ◌∷◌, if◌then◌else◌, unwrap_or}
use Rattle.tl_sexpr.specs.Tree.{FormTree, FormTrees, symbol, list, no_form, more_forms}
use Rattle.tl_syntax.specs.declared.value.Cmp.TheVariants as cmp
use Rattle.tl_syntax.specs.declared.variable.Arg.{Arg}
use Rattle.tl_syntax.specs.declared.bound.Bound.{Bound}
use Rattle.tl_syntax.specs.declared.bound.Bound.TheVariants as bound
use Rattle.tl_formulas.specs.declared.words.FormulaWord.{FormulaWord}
use Rattle.tl_formulas.specs.declared.words.FormulaWord.TheVariants as word
use Rattle.tl_formulas.specs.declared.signature.NameSignature.{NameSignature}
use Rattle.tl_formulas.specs.Words.{formula_word}
use Rattle.tl_rules.specs.Parts.{elements_of, rest_of}
use Rattle.tl_formulas.specs.Signatures.{Table, Scope, place_of}
use Rattle.tl_formulas.specs.Goals.{is_flat}
use Rattle.tl_formulas.specs.MeaningOfTerms.{argument_meant, arguments_meant}

-- the place in a table of the name with which a list begins
abbrev pub call_place : Table → FormTree → ℕ
call_place table (list (more_forms (symbol text _) rest) at) = unwrap_or (place_of table text) 0
call_place table _ = 0

-- the place of the name with which a list begins, and the arguments after it
abbrev pub flat_meant : List (List ℕ) → Table → Scope → FormTree → ℕ × List Arg
flat_meant names table scope f = (call_place table f, arguments_meant names scope (rest_of f))

-- a bound that stands for nothing
abbrev pub no_bound : Bound
no_bound = bound.Fact 0 []

-- an argument of `goal` that is no fact, by its elements
abbrev pub other_goal_meant : List (List ℕ) → NameSignature → Scope → FormTrees → Bound
other_goal_meant names g scope (more_forms word (more_forms place (more_forms value no_form))) =
    bound.GoalPlace (call_place g.functions place) (arguments_meant names scope (rest_of place)) (argument_meant names scope value)
other_goal_meant names g scope (more_forms word (more_forms fact no_form)) =
    bound.GoalNot (call_place g.predicates fact) (arguments_meant names scope (rest_of fact))
other_goal_meant names g scope _ = no_bound

-- an argument of `goal`, as the bound that it is
unfoldable pub goal_meant : List (List ℕ) → NameSignature → Scope → FormTree → Bound
goal_meant names g scope f =
    if is_flat g.predicates f then bound.GoalFact (call_place g.predicates f) (arguments_meant names scope (rest_of f))
    else other_goal_meant names g scope (elements_of f)

-- a bound `(= X a)`, by its elements after the first
abbrev pub equality_meant : List (List ℕ) → NameSignature → Scope → FormTrees → Bound
equality_meant names g scope (more_forms place (more_forms value no_form)) =
    bound.Place (call_place g.functions place) (arguments_meant names scope (rest_of place)) (argument_meant names scope value)
equality_meant names g scope _ = no_bound

-- a bound `(goal A)`, by its elements after the first
abbrev pub goal_bound_meant : List (List ℕ) → NameSignature → Scope → FormTrees → Bound
goal_bound_meant names g scope (more_forms f no_form) = goal_meant names g scope f
goal_bound_meant names g scope _ = no_bound

-- a bound that begins with a word, by its elements after the first
abbrev pub bound_call_meant : List (List ℕ) → NameSignature → Scope → FormulaWord → List ℕ → FormTrees → Bound
bound_call_meant names g scope (word.Compare cmp.Eq) text rest = equality_meant names g scope rest
bound_call_meant names g scope word.Goal text rest = goal_bound_meant names g scope rest
bound_call_meant names g scope _ text rest = bound.Fact (unwrap_or (place_of g.predicates text) 0) (arguments_meant names scope rest)

-- a bound
unfoldable pub bound_meant : List (List ℕ) → NameSignature → Scope → FormTree → Bound
bound_meant names g scope (list (more_forms (symbol text _) rest) at) = bound_call_meant names g scope (formula_word text) text rest
bound_meant names g scope _ = no_bound

-- bounds
abbrev pub bounds_meant : List (List ℕ) → NameSignature → Scope → FormTrees → List Bound
bounds_meant names g scope no_form = []
bounds_meant names g scope (more_forms f fs) = bound_meant names g scope f ∷ bounds_meant names g scope fs
