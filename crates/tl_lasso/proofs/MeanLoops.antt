-- Files of plans with a repeated part mean something exactly where they break no rule.
use Rattle.std.proofs.Common.{◌≡◌, ℕ, List, refl, ◌∙◌}
use Rattle.std.specs.Prelude.{Bool, true, false, Option, Some, None, option_and_then, if◌then◌else◌, codes}
use Rattle.tl_sexpr.specs.Tree.{FormTree, FormTrees, symbol, integer, list, no_form, more_forms}
use Rattle.tl_syntax.specs.declared.action.Action.{Action}
use Rattle.tl_syntax.specs.declared.operator.Operator.{Operator}
use Rattle.tl_rules.specs.Both.{option_both}
use Rattle.tl_rules.specs.Parts.{count, is_word}
use Rattle.tl_rules.specs.Unbroken.{where_unbroken}
use Rattle.tl_rules.proofs.Unbroken.{both-unbroken}
use Rattle.tl_line.specs.ActionLists.{actions_breaks}
use Rattle.tl_line.specs.PartialActions.{actions_meaning}
use Rattle.tl_line.proofs.MeanActions.{actions-mean}
use Rattle.tl_lasso.specs.LoopFiles.{front_of, last_form, repeat_breaks, repeat_breaks_at, loop_breaks, loop_breaks_by}
use Rattle.tl_lasso.specs.MeaningOfLoops.{repeat_meant, repeated_meant, loop_meant, loop_meant_by}
use Rattle.tl_lasso.specs.PartialLoops.{repeat_meaning, loop_meaning}
use Rattle.tl_lasso.specs.declared.plan.LoopPlan.{LoopPlan}

repeat-mean : (names : List (List ℕ)) (operators : List Operator) (before : ℕ) (f : FormTree) → repeat_meaning names operators before f ≡
    where_unbroken (repeat_breaks names operators before f) (repeat_meant names operators f)
repeat-mean names operators before (symbol text at) = refl
repeat-mean names operators before (integer z at) = refl
repeat-mean names operators before (list no_form at) = refl
repeat-mean names operators before (list (more_forms word no_form) at) = refl
repeat-mean names operators before (list (more_forms word (more_forms f fs)) at) = cases (is_word (codes "repeat") word)
  where
    forms : FormTrees
    forms = more_forms f fs

    cases : (w : Bool) → (if w then actions_meaning names operators before forms else None) ≡
        where_unbroken (repeat_breaks_at names operators before at (if w then Some forms else None))
        (repeated_meant names operators (if w then Some forms else None))
    cases true = actions-mean names operators before forms
    cases false = refl

pub loop-mean : (names : List (List ℕ)) (operators : List Operator) (fs : FormTrees) → loop_meaning names operators fs ≡
    where_unbroken (loop_breaks names operators fs) (loop_meant names operators fs)
loop-mean names operators fs = cases (front_of fs) (last_form fs)
  where
    made : List Action → List Action → LoopPlan
    made stem cycle = record { stem = stem; cycle = cycle }

    lost : (o : Option (List Action)) → option_both made o None ≡ None
    lost None = refl
    lost (Some stem) = refl

    cases : (front : FormTrees) (last : Option FormTree) → option_both made (actions_meaning names operators 0 front)
        (option_and_then (repeat_meaning names operators (count front)) last) ≡
        where_unbroken (loop_breaks_by names operators front last) (loop_meant_by names operators front last)
    cases front None = lost (actions_meaning names operators 0 front)
    cases front (Some f) =
        (λ i. option_both made (actions-mean names operators 0 front i) (repeat-mean names operators (count front) f i))
        ∙ both-unbroken made (actions_breaks names operators 0 front) (repeat_breaks names operators (count front) f) _ _
