-- Forms mean actions exactly where they break no rule.
use Rattle.std.specs.Prelude.{◌≡◌, ℕ, List}
use Rattle.tl_sexpr.specs.Tree.{FormTrees}
use Rattle.tl_syntax.specs.declared.operator.Operator.{Operator}
use Rattle.tl_rules.specs.Unbroken.{where_unbroken}
use Rattle.tl_line.specs.ActionLists.{actions_breaks}
use Rattle.tl_line.specs.MeaningOfActions.{actions_meant}
use Rattle.tl_line.specs.PartialActions.{actions_meaning}

-- forms mean actions, with so many actions before them, exactly where they break no rule
abbrev pub ActionsMean : Type 0
ActionsMean =
    (names : List (List ℕ)) (operators : List Operator) (before : ℕ) (fs : FormTrees)
    → actions_meaning names operators before fs ≡ where_unbroken (actions_breaks names operators before fs)
    (actions_meant names operators fs)
