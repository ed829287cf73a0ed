-- The plan with a repeated part that forms mean, where they mean one.
use Rattle.std.specs.Prelude.{ℕ, List, Option, None, option_and_then, if◌then◌else◌, codes}
use Rattle.tl_sexpr.specs.Tree.{FormTree, FormTrees, list, more_forms}
use Rattle.tl_syntax.specs.declared.action.Action.{Action}
use Rattle.tl_syntax.specs.declared.operator.Operator.{Operator}
use Rattle.tl_rules.specs.Both.{option_both}
use Rattle.tl_rules.specs.Parts.{count, is_word}
use Rattle.tl_line.specs.PartialActions.{actions_meaning}
use Rattle.tl_lasso.specs.LoopFiles.{front_of, last_form}
use Rattle.tl_lasso.specs.declared.plan.LoopPlan.{LoopPlan}

-- a repeated part `(repeat ACTION ..)` with so many actions before it
abbrev pub repeat_meaning : List (List ℕ) → List Operator → ℕ → FormTree → Option (List Action)
repeat_meaning names operators before (list (more_forms word (more_forms f fs)) at) =
    if is_word (codes "repeat") word then actions_meaning names operators before (more_forms f fs) else None
repeat_meaning names operators before _ = None

-- what such a file means: its last form is the repeated part, and each form before it an action
abbrev pub loop_meaning : List (List ℕ) → List Operator → FormTrees → Option LoopPlan
loop_meaning names operators fs =
    option_both (λ stem cycle. record { stem = stem; cycle = cycle }) (actions_meaning names operators 0 (front_of fs))
    (option_and_then (repeat_meaning names operators (count (front_of fs))) (last_form fs))
