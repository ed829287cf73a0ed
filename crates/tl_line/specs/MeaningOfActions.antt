-- The actions that forms stand for. Where a form breaks a rule, what is said of it here does not
-- matter.
use Rattle.std.specs.Prelude.{ℕ, List, [], ◌∷◌, unwrap_or}
use Rattle.tl_sexpr.specs.Tree.{FormTree, FormTrees, symbol, list, no_form, more_forms}
use Rattle.tl_syntax.specs.declared.action.Action.{Action}
use Rattle.tl_syntax.specs.declared.operator.Operator.{Operator}
use Rattle.tl_rules.specs.Values.{values_meant}
use Rattle.tl_line.specs.Actions.{operator_at}

-- an action: its operator, and its arguments
unfoldable pub action_meant : List (List ℕ) → List Operator → FormTree → Action
action_meant names operators (list (more_forms (symbol text _) rest) at) =
    record { op = unwrap_or (operator_at names operators text) 0; args = values_meant names rest }
action_meant names operators _ = record { op = 0; args = [] }

-- one action for each form, in their order
abbrev pub actions_meant : List (List ℕ) → List Operator → FormTrees → List Action
actions_meant names operators no_form = []
actions_meant names operators (more_forms f fs) = action_meant names operators f ∷ actions_meant names operators fs
