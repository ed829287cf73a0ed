-- Forms mean a plan with a repeated part exactly where they break no rule.
use Rattle.std.specs.Prelude.{◌≡◌, ℕ, List}
use Rattle.tl_sexpr.specs.Tree.{FormTrees}
use Rattle.tl_syntax.specs.declared.operator.Operator.{Operator}
use Rattle.tl_rules.specs.Unbroken.{where_unbroken}
use Rattle.tl_lasso.specs.LoopFiles.{loop_breaks}
use Rattle.tl_lasso.specs.MeaningOfLoops.{loop_meant}
use Rattle.tl_lasso.specs.PartialLoops.{loop_meaning}

-- the forms of such a file mean their plan exactly where they break no rule
abbrev pub LoopsMean : Type 0
LoopsMean =
    (names : List (List ℕ)) (operators : List Operator) (forms : FormTrees)
    → loop_meaning names operators forms ≡ where_unbroken (loop_breaks names operators forms) (loop_meant names operators forms)
