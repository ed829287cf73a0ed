-- Forms mean costs exactly where they break no rule.
use Rattle.std.specs.Prelude.{◌≡◌, ℕ, List}
use Rattle.tl_sexpr.specs.Tree.{FormTrees}
use Rattle.tl_syntax.specs.declared.operator.Operator.{Operator}
use Rattle.tl_rules.specs.Unbroken.{where_unbroken}
use Rattle.tl_cost.specs.CostFiles.{costs_breaks, costs_meant}
use Rattle.tl_cost.specs.PartialCosts.{costs_meaning}

-- the forms of a costs file mean costs exactly where they break no rule
abbrev pub CostsMean : Type 0
CostsMean =
    (names : List (List ℕ)) (operators : List Operator) (forms : FormTrees)
    → costs_meaning names operators forms ≡ where_unbroken (costs_breaks names operators forms) (costs_meant names operators forms)
