-- Forms mean a plan exactly where they break no rule.
use Rattle.std.specs.Prelude.{◌≡◌, ℕ, List}
use Rattle.tl_sexpr.specs.Tree.{FormTrees}
use Rattle.tl_syntax.specs.declared.operator.Operator.{Operator}
use Rattle.tl_rules.specs.Unbroken.{where_unbroken}
use Rattle.tl_text.specs.MeaningOfPlans.{plan_meant}
use Rattle.tl_text.specs.PartialPlans.{plan_meaning}
use Rattle.tl_text.specs.Plans.{plan_breaks}

-- the forms of a plan file mean their actions exactly where they break no rule
abbrev pub PlansMean : Type 0
PlansMean =
    (names : List (List ℕ)) (operators : List Operator) (forms : FormTrees)
    → plan_meaning names operators forms ≡ where_unbroken (plan_breaks names operators forms) (plan_meant names operators forms)
