-- The plans that forms stand for. Where a form breaks a rule, what is said of it here does not
-- matter.
use Rattle.std.specs.Prelude.{ℕ, List}
use Rattle.tl_sexpr.specs.Tree.{FormTrees}
use Rattle.tl_syntax.specs.declared.action.Action.{Action}
use Rattle.tl_syntax.specs.declared.operator.Operator.{Operator}
use Rattle.tl_line.specs.MeaningOfActions.{actions_meant}

-- one action for each form, in their order
abbrev pub plan_meant : List (List ℕ) → List Operator → FormTrees → List Action
plan_meant names operators fs = actions_meant names operators fs
