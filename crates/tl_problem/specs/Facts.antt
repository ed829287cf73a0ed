-- Facts, equalities and negated facts, each by itself: the rules that forms break, and what they
-- stand for.
--
-- What is said of the meaning of a form that breaks a rule does not matter.
use Rattle.std.specs.Prelude.{ℕ, pos, List, [], ◌∷◌, ◌++◌, Option, Some, None}
use Rattle.tl_sexpr.specs.Tree.{FormTree, FormTrees, no_form, more_forms}
use Rattle.tl_syntax.specs.declared.declared.Declared.{Declared}
use Rattle.tl_syntax.specs.declared.fact.Fact.{Fact}
use Rattle.tl_syntax.specs.declared.place_value.PlaceValue.{PlaceValue}
use Rattle.tl_syntax.specs.declared.value.Value.TheVariants.{Int}
use Rattle.tl_rules.specs.declared.rule.Rule.TheVariants.{Shape}
use Rattle.tl_rules.specs.Rules.{Break}
use Rattle.tl_rules.specs.Values.{value_meant, values_meant}
use Rattle.tl_rules.specs.Calls.{CallTree, call_in}
use Rattle.tl_problem.specs.Declarations.{declared_call_breaks, position_meant}
use Rattle.tl_problem.specs.Values.{value_breaks, values_breaks}

-- what `(n c*)` breaks, with its values, where it should name something that is declared
abbrev pub ground_breaks : List (List ℕ) → List Declared → CallTree → List Break
ground_breaks names declared c = declared_call_breaks names declared c ++ values_breaks c.rest

-- a fact `(p c*)`
abbrev pub fact_meant : List (List ℕ) → List Declared → CallTree → Fact
fact_meant names predicates c = record {
  pred = position_meant names predicates c.word;
  args = values_meant names c.rest;
}

-- the fact X of `(not X)`: X itself breaks the rules of facts, and where it calls nothing, `(not
-- X)` has no shape
abbrev pub negated_breaks : List (List ℕ) → List Declared → Option CallTree → ℕ → List Break
negated_breaks names predicates (Some fact) at = ground_breaks names predicates fact
negated_breaks names predicates None at = (Shape, at) ∷ []

abbrev pub negated_meant : List (List ℕ) → List Declared → Option CallTree → Fact
negated_meant names predicates (Some fact) = fact_meant names predicates fact
negated_meant names predicates None = record { pred = 0; args = [] }

-- what `(not X)` breaks by itself, by its elements after the first
abbrev pub negation_breaks : List (List ℕ) → List Declared → FormTrees → ℕ → List Break
negation_breaks names predicates (more_forms fact no_form) at =
    negated_breaks names predicates (call_in fact) at
negation_breaks names predicates _ at = (Shape, at) ∷ []

-- the fact X, by the elements of `(not X)` after the first
abbrev pub negation_meant : List (List ℕ) → List Declared → FormTrees → Fact
negation_meant names predicates (more_forms fact no_form) =
    negated_meant names predicates (call_in fact)
negation_meant names predicates _ = record { pred = 0; args = [] }

-- the place X and the value c of `(= X c)`: both break their own rules, and where X calls nothing,
-- `(= X c)` has no shape
abbrev pub place_breaks : List (List ℕ) → List Declared → Option CallTree → FormTree → ℕ → List Break
place_breaks names functions (Some place) value at =
    ground_breaks names functions place ++ value_breaks value
place_breaks names functions None value at = (Shape, at) ∷ []

abbrev pub place_meant : List (List ℕ) → List Declared → Option CallTree → FormTree → PlaceValue
place_meant names functions (Some place) value = record {
  fun = position_meant names functions place.word;
  args = values_meant names place.rest;
  value = value_meant names value;
}
place_meant names functions None value = record { fun = 0; args = []; value = Int (pos 0) }

-- what `(= X c)` breaks by itself, by its elements after the first
abbrev pub place_value_breaks : List (List ℕ) → List Declared → FormTrees → ℕ → List Break
place_value_breaks names functions (more_forms place (more_forms value no_form)) at =
    place_breaks names functions (call_in place) value at
place_value_breaks names functions _ at = (Shape, at) ∷ []

-- a place with its value, by the elements of `(= X c)` after the first
abbrev pub place_value_meant : List (List ℕ) → List Declared → FormTrees → PlaceValue
place_value_meant names functions (more_forms place (more_forms value no_form)) =
    place_meant names functions (call_in place) value
place_value_meant names functions _ = record { fun = 0; args = []; value = Int (pos 0) }
