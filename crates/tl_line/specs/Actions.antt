-- Actions: the rules that a form breaks in the role of an action of a plan.
--
-- An action is a list `(NAME c*)`. NAME is the text of an operator's name, and the arguments are as
-- many values as the operator has parameters. A symbol is a value where it stands in the domain
-- file or the problem file, which is where the table of names has its text.
use Rattle.std.specs.Prelude.{ℕ, List, [], ◌∷◌, ◌++◌, Bool, false, ◌||◌, ◌==◌, not, length, Option, Some, None, is_some, slice_get}
use Rattle.std.specs.Prelude.{option_and_then}
use Rattle.std.specs.List.{position}
use Rattle.std.specs.Option.{option_map_or}
use Rattle.tl_sexpr.specs.Tree.{FormTree, FormTrees, symbol, integer, list, no_form, more_forms}
use Rattle.tl_syntax.specs.declared.operator.Operator.{Operator}
use Rattle.tl_syntax.specs.Texts.{number_of}
use Rattle.tl_rules.specs.declared.rule.Rule.TheVariants.{Shape, NoOperator, ArgumentCount, NotAValue}
use Rattle.tl_rules.specs.Parts.{is_variable, offset_of, count}
use Rattle.tl_rules.specs.Rules.{Break, breaks_if}

-- the position of the operator whose name has this text
abbrev pub operator_at : List (List ℕ) → List Operator → List ℕ → Option ℕ
operator_at names operators text = option_and_then (λ n. position (λ o. o.name == n) operators) (number_of names text)

-- the operator at this position has so many parameters
abbrev pub has_parameters : List Operator → ℕ → ℕ → Bool
has_parameters operators op n = option_map_or (λ o. length o.params == n) (slice_get operators op) false

-- what an action breaks that has so many arguments, by the position of its operator
abbrev pub named_operator_breaks_at : List Operator → Option ℕ → ℕ → ℕ → List Break
named_operator_breaks_at operators None n at = (NoOperator, at) ∷ []
named_operator_breaks_at operators (Some op) n at = breaks_if (not (has_parameters operators op n)) ArgumentCount at

-- what an action breaks that begins with this text and has so many arguments
abbrev pub named_operator_breaks : List (List ℕ) → List Operator → List ℕ → ℕ → ℕ → List Break
named_operator_breaks names operators text n at = named_operator_breaks_at operators (operator_at names operators text) n at

-- what an argument of an action breaks
abbrev pub named_value_breaks : List (List ℕ) → FormTree → List Break
named_value_breaks names (symbol text at) = breaks_if (is_variable text || not (is_some (number_of names text))) NotAValue at
named_value_breaks names (integer z at) = []
named_value_breaks names (list fs at) = (NotAValue, at) ∷ []

-- what the arguments of an action break
abbrev pub named_values_breaks : List (List ℕ) → FormTrees → List Break
named_values_breaks names no_form = []
named_values_breaks names (more_forms f fs) = named_value_breaks names f ++ named_values_breaks names fs

-- what an action breaks, with its arguments
unfoldable pub action_breaks : List (List ℕ) → List Operator → FormTree → List Break
action_breaks names operators (list (more_forms (symbol text _) rest) at) = named_operator_breaks names operators text (count rest) at ++
    named_values_breaks names rest
action_breaks names operators f = (Shape, offset_of f) ∷ []
