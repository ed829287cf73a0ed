-- The problem that forms mean, where they mean one.
use Rattle.std.specs.Prelude.{ℕ, List, [], ◌∷◌, ◌&&◌, nat_lt, Option, Some, None, option_and_then, if◌then◌else◌, codes}
use Rattle.std.specs.List.{list_any}
use Rattle.std.specs.Option.{option_map}
use Rattle.tl_sexpr.specs.Tree.{FormTree, FormTrees, symbol, integer, list, no_form, more_forms}
use Rattle.tl_syntax.specs.declared.declared.Declared.{Declared}
use Rattle.tl_syntax.specs.declared.domain.Domain.{Domain}
use Rattle.tl_syntax.specs.declared.fact.Fact.{Fact}
use Rattle.tl_syntax.specs.declared.place_value.PlaceValue.{PlaceValue}
use Rattle.tl_syntax.specs.declared.value.Value.{Value}
use Rattle.tl_syntax.specs.declared.value.Value.TheVariants.{Int, Sym}
use Rattle.tl_syntax.specs.DerivedTests.{fact_eq}
use Rattle.tl_rules.specs.Both.{option_both}
use Rattle.tl_rules.specs.Parts.{count, is_name, is_variable, is_word, rest_of, begins_with}
use Rattle.tl_rules.specs.Symbols.{number_in}
use Rattle.tl_problem.specs.declared.elements.Section.{Section}
use Rattle.tl_problem.specs.declared.elements.Section.TheVariants as section
use Rattle.tl_problem.specs.Declarations.{position_of, has_declared_arity}
use Rattle.tl_problem.specs.ElementWords.{ElementWord, element_word}
use Rattle.tl_problem.specs.ElementWords as word
use Rattle.tl_problem.specs.Literals.{Literals, no_literal, and_fact, and_value, and_not, has_other_value}
use Rattle.tl_problem.specs.Sections.{Sections}

-- a value: a name or an integer
abbrev pub value_meaning : List (List ℕ) → FormTree → Option Value
value_meaning names (symbol text at) = if is_variable text then None else Some (Sym (number_in names text))
value_meaning names (integer z at) = Some (Int z)
value_meaning names (list fs at) = None

-- values
abbrev pub values_meaning : List (List ℕ) → FormTrees → Option (List Value)
values_meaning names no_form = Some []
values_meaning names (more_forms f fs) = option_both (λ x xs. x ∷ xs) (value_meaning names f) (values_meaning names fs)

-- the position of the declaration of this name that takes so many arguments
abbrev pub position_for : List (List ℕ) → List Declared → List ℕ → ℕ → Option ℕ
position_for names declared text n =
    option_and_then (λ i. if has_declared_arity declared i n then Some i else None) (position_of names declared text)

-- what a list `(n c*)` calls that is declared, and its values
abbrev pub ground_meaning : List (List ℕ) → List Declared → FormTree → Option (ℕ × List Value)
ground_meaning names declared (list (more_forms (symbol text _) rest) at) =
    option_both (λ i xs. (i, xs)) (position_for names declared text (count rest)) (values_meaning names rest)
ground_meaning names declared _ = None

-- a fact `(p c*)`
abbrev pub fact_meaning : List (List ℕ) → List Declared → FormTree → Option Fact
fact_meaning names predicates f = option_map (λ p. record { pred = p.0; args = p.1 }) (ground_meaning names predicates f)

-- the fact X, by the elements of `(not X)` after the first
abbrev pub negation_meaning : List (List ℕ) → List Declared → FormTrees → Option Fact
negation_meaning names predicates (more_forms fact no_form) = fact_meaning names predicates fact
negation_meaning names predicates _ = None

-- a place with its value, by the elements of `(= X c)` after the first
abbrev pub place_value_meaning : List (List ℕ) → List Declared → FormTrees → Option PlaceValue
place_value_meaning names functions (more_forms place (more_forms value no_form)) =
    option_both (λ p x. record { fun = p.0; args = p.1; value = x }) (ground_meaning names functions place) (value_meaning names value)
place_value_meaning names functions _ = None

-- what is said with an element of this word, which may not contradict what is said before it
abbrev pub element_call_meaning : List (List ℕ) → Domain → Literals → ElementWord → FormTree → Option Literals
element_call_meaning names d l word.Equality f =
    option_and_then (λ x. if has_other_value l.values x then None else Some (and_value l x))
    (place_value_meaning names d.functions (rest_of f))
element_call_meaning names d l word.Negation f =
    option_and_then (λ x. if list_any (fact_eq x) l.facts then None else Some (and_not l x))
    (negation_meaning names d.predicates (rest_of f))
element_call_meaning names d l word.Fact f =
    option_and_then (λ x. if list_any (fact_eq x) l.nots then None else Some (and_fact l x)) (fact_meaning names d.predicates f)

-- what is said with an element
abbrev pub element_meaning : List (List ℕ) → Domain → Section → Literals → FormTree → Option Literals
element_meaning names d s l (list (more_forms (symbol text i) rest) at) =
    element_call_meaning names d l (element_word s text) (list (more_forms (symbol text i) rest) at)
element_meaning names d s l _ = None

-- what is said with elements
abbrev pub elements_meaning : List (List ℕ) → Domain → Section → Literals → FormTrees → Option Literals
elements_meaning names d s l no_form = Some l
elements_meaning names d s l (more_forms f fs) =
    option_and_then (λ m. elements_meaning names d s m fs) (element_meaning names d s l f)

-- what an `init` or a `goal` form says; it may have 4,096 elements
abbrev pub section_meaning : List (List ℕ) → Domain → Section → FormTree → Option Literals
section_meaning names d s f = if nat_lt 4096 (count (rest_of f)) then None else elements_meaning names d s no_literal (rest_of f)

-- what the problem form `(problem NAME (init ..) (goal ..))` says, by its elements
abbrev pub sections_meaning : List (List ℕ) → Domain → FormTrees → Option Sections
sections_meaning names d (more_forms word (more_forms name (more_forms init (more_forms goal no_form)))) =
    if is_word (codes "problem") word && is_name name && begins_with (codes "init") init && begins_with (codes "goal") goal
    then option_both (λ i g. record { init = i; goal = g }) (section_meaning names d section.Init init)
    (section_meaning names d section.Goal goal)
    else None
sections_meaning names d _ = None

-- what a problem file says, which is one form
abbrev pub problem_meaning : List (List ℕ) → Domain → FormTrees → Option Sections
problem_meaning names d (more_forms (list fs at) no_form) = sections_meaning names d fs
problem_meaning names d _ = None
