-- The actions that forms mean, where they mean one.
use Rattle.std.specs.Prelude.{ℕ, ◌+◌, List, [], ◌∷◌, nat_lt, Option, Some, None, option_and_then, if◌then◌else◌}
use Rattle.std.specs.Option.{option_map}
use Rattle.tl_sexpr.specs.Tree.{FormTree, FormTrees, symbol, integer, list, no_form, more_forms}
use Rattle.tl_syntax.specs.declared.action.Action.{Action}
use Rattle.tl_syntax.specs.declared.operator.Operator.{Operator}
use Rattle.tl_syntax.specs.declared.value.Value.{Value}
use Rattle.tl_syntax.specs.declared.value.Value.TheVariants.{Int, Sym}
use Rattle.tl_syntax.specs.Texts.{number_of}
use Rattle.tl_rules.specs.Both.{option_both}
use Rattle.tl_rules.specs.Parts.{is_variable, count}
use Rattle.tl_line.specs.Actions.{operator_at, has_parameters}

-- an argument: one of the names that is no variable, or an integer
abbrev pub named_value_meaning : List (List ℕ) → FormTree → Option Value
named_value_meaning names (symbol text at) = if is_variable text then None else option_map (λ n. Sym n) (number_of names text)
named_value_meaning names (integer z at) = Some (Int z)
named_value_meaning names (list fs at) = None

-- arguments
abbrev pub named_values_meaning : List (List ℕ) → FormTrees → Option (List Value)
named_values_meaning names no_form = Some []
named_values_meaning names (more_forms f fs) =
    option_both (λ x xs. x ∷ xs) (named_value_meaning names f) (named_values_meaning names fs)

-- the position of the operator of this name that has so many parameters
abbrev pub operator_for : List (List ℕ) → List Operator → List ℕ → ℕ → Option ℕ
operator_for names operators text n =
    option_and_then (λ op. if has_parameters operators op n then Some op else None) (operator_at names operators text)

-- an action
unfoldable pub action_meaning : List (List ℕ) → List Operator → FormTree → Option Action
action_meaning names operators (list (more_forms (symbol text _) rest) at) =
    option_both (λ op xs. record { op = op; args = xs }) (operator_for names operators text (count rest)) (named_values_meaning names rest)
action_meaning names operators _ = None

-- actions with so many before them; a plan has at most 100000
abbrev pub actions_meaning : List (List ℕ) → List Operator → ℕ → FormTrees → Option (List Action)
actions_meaning names operators before no_form = Some []
actions_meaning names operators before (more_forms f fs) =
    option_both (λ x xs. x ∷ xs) (if nat_lt before 100000 then action_meaning names operators f else None)
    (actions_meaning names operators (before + 1) fs)
