-- The plan that forms mean, where they mean one: every form is an action.
use Rattle.std.specs.Prelude.{ℕ, List, Option}
use Rattle.tl_sexpr.specs.Tree.{FormTrees}
use Rattle.tl_syntax.specs.declared.action.Action.{Action}
use Rattle.tl_syntax.specs.declared.operator.Operator.{Operator}
use Rattle.tl_line.specs.PartialActions.{actions_meaning}

-- what a plan file means
abbrev pub plan_meaning : List (List ℕ) → List Operator → FormTrees → Option (List Action)
plan_meaning names operators fs = actions_meaning names operators 0 fs
