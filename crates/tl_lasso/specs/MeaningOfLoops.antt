-- The plans with a repeated part that forms stand for. Where a form breaks a rule, what is said of
-- it here does not matter.
use Rattle.std.specs.Prelude.{ℕ, List, [], Option, Some, None}
use Rattle.tl_sexpr.specs.Tree.{FormTree, FormTrees}
use Rattle.tl_syntax.specs.declared.action.Action.{Action}
use Rattle.tl_syntax.specs.declared.operator.Operator.{Operator}
use Rattle.tl_line.specs.MeaningOfActions.{actions_meant}
use Rattle.tl_lasso.specs.LoopFiles.{front_of, last_form, repeated}
use Rattle.tl_lasso.specs.declared.plan.LoopPlan.{LoopPlan}

-- the actions of the forms, where there are some
abbrev pub repeated_meant : List (List ℕ) → List Operator → Option FormTrees → List Action
repeated_meant names operators None = []
repeated_meant names operators (Some fs) = actions_meant names operators fs

-- the actions of a repeated part
abbrev pub repeat_meant : List (List ℕ) → List Operator → FormTree → List Action
repeat_meant names operators f = repeated_meant names operators (repeated f)

-- the plan of these forms before this last one
abbrev pub loop_meant_by : List (List ℕ) → List Operator → FormTrees → Option FormTree → LoopPlan
loop_meant_by names operators front None = record { stem = []; cycle = [] }
loop_meant_by names operators front (Some f) = record { stem = actions_meant names operators front; cycle = repeat_meant names operators f }

-- the plan of the forms of a file
abbrev pub loop_meant : List (List ℕ) → List Operator → FormTrees → LoopPlan
loop_meant names operators fs = loop_meant_by names operators (front_of fs) (last_form fs)
