-- The bounds that forms mean, where they mean one.
use Rattle.std.specs.Prelude.{ℕ, List, [], ◌∷◌, Bool, false, Option, Some, None, if◌then◌else◌, codes}
use Rattle.tl_sexpr.specs.Tree.{FormTree, FormTrees, symbol, list, no_form, more_forms}
use Rattle.tl_syntax.specs.declared.value.Cmp.TheVariants as cmp
use Rattle.tl_syntax.specs.declared.variable.Arg.{Arg}
use Rattle.tl_syntax.specs.declared.bound.Bound.{Bound}
use Rattle.tl_syntax.specs.declared.bound.Bound.TheVariants as bound
use Rattle.tl_rules.specs.Both.{option_both}
use Rattle.tl_rules.specs.Parts.{count, is_word, elements_of}
use Rattle.tl_formulas.specs.declared.signature.NameSignature.{NameSignature}
use Rattle.tl_formulas.specs.declared.words.FormulaWord.{FormulaWord}
use Rattle.tl_formulas.specs.declared.words.FormulaWord.TheVariants as word
use Rattle.tl_formulas.specs.Goals.{is_flat, is_miscounted_at}
use Rattle.tl_formulas.specs.PartialTerms.{argument_meaning, arguments_meaning, place_for}
use Rattle.tl_formulas.specs.Signatures.{Table, Scope, place_of}
use Rattle.tl_formulas.specs.Words.{formula_word}

-- what a name of a table makes with its arguments
abbrev pub flat_meaning : {A : Type 0} → (ℕ → List Arg → A) → List (List ℕ) → Table → Scope → List ℕ → FormTrees → Option A
flat_meaning make names table scope text rest = option_both make (place_for table text (count rest)) (arguments_meaning names scope rest)

-- the same of a form
abbrev pub called_meaning : {A : Type 0} → (ℕ → List Arg → A) → List (List ℕ) → Table → Scope → FormTree → Option A
called_meaning make names table scope (list (more_forms (symbol text _) rest) at) = flat_meaning make names table scope text rest
called_meaning make names table scope _ = None

-- a list calls a name of the table with another number of arguments
abbrev pub is_miscounted : Table → FormTree → Bool
is_miscounted table (list (more_forms (symbol text _) rest) at) = is_miscounted_at table (place_of table text) (count rest)
is_miscounted table _ = false

-- an argument of `goal` that is no fact, by its elements
abbrev pub other_goal_meaning : List (List ℕ) → NameSignature → Scope → FormTrees → Option Bound
other_goal_meaning names g scope (more_forms word (more_forms place (more_forms value no_form))) =
    if is_word (codes "=") word
    then option_both (λ (k : Arg → Bound) x. k x) (called_meaning (λ i xs x. bound.GoalPlace i xs x) names g.functions scope place)
    (argument_meaning names scope value)
    else None
other_goal_meaning names g scope (more_forms word (more_forms fact no_form)) =
    if is_word (codes "not") word then called_meaning bound.GoalNot names g.predicates scope fact else None
other_goal_meaning names g scope _ = None

-- an argument of `goal`, as the bound that it is
unfoldable pub goal_meaning : List (List ℕ) → NameSignature → Scope → FormTree → Option Bound
goal_meaning names g scope f =
    if is_flat g.predicates f then called_meaning bound.GoalFact names g.predicates scope f
    else (if is_miscounted g.predicates f then None else other_goal_meaning names g scope (elements_of f))

-- a bound that begins with a word, by its elements after the first
abbrev pub bound_call_meaning : List (List ℕ) → NameSignature → Scope → FormulaWord → List ℕ → FormTrees → Option Bound
bound_call_meaning names g scope (word.Compare cmp.Eq) text (more_forms place (more_forms value no_form)) =
    option_both (λ (k : Arg → Bound) x. k x) (called_meaning (λ i xs x. bound.Place i xs x) names g.functions scope place)
    (argument_meaning names scope value)
bound_call_meaning names g scope (word.Compare cmp.Eq) text _ = None
bound_call_meaning names g scope word.Goal text (more_forms f no_form) = goal_meaning names g scope f
bound_call_meaning names g scope word.Goal text _ = None
bound_call_meaning names g scope _ text rest = flat_meaning bound.Fact names g.predicates scope text rest

-- a bound
unfoldable pub bound_meaning : List (List ℕ) → NameSignature → Scope → FormTree → Option Bound
bound_meaning names g scope (list (more_forms (symbol text _) rest) at) = bound_call_meaning names g scope (formula_word text) text rest
bound_meaning names g scope _ = None

-- bounds
abbrev pub bounds_meaning : List (List ℕ) → NameSignature → Scope → FormTrees → Option (List Bound)
bounds_meaning names g scope no_form = Some []
bounds_meaning names g scope (more_forms f fs) =
    option_both (λ x xs. x ∷ xs) (bound_meaning names g scope f) (bounds_meaning names g scope fs)
