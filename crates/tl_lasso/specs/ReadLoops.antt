-- What is read from the forms of a plan file with a repeated part, where a problem gives the names
-- and the operators.
use Rattle.std.specs.Prelude.{ℕ, List, Result}
use Rattle.tl_sexpr.specs.Tree.{FormTree, FormTrees}
use Rattle.tl_syntax.specs.declared.action.Action.{Action}
use Rattle.tl_syntax.specs.declared.problem.Problem.{Problem}
use Rattle.tl_rules.specs.declared.rule.FormFault.{FormFault}
use Rattle.tl_rules.specs.Reads.{Reads}
use Rattle.tl_rules.specs.Rules.{Break}
use Rattle.tl_line.specs.NamedActions.{ActionIsNamed}
use Rattle.tl_lasso.specs.LoopFiles.{loop_breaks, repeat_breaks}
use Rattle.tl_lasso.specs.MeaningOfLoops.{loop_meant, repeat_meant}
use Rattle.tl_lasso.specs.declared.plan.LoopPlan.{LoopPlan}

-- the action names only what the problem has
abbrev pub IsNamedIn : Problem → Action → Type 0
IsNamedIn problem = ActionIsNamed problem.names problem.domain.operators

-- what the forms of a file break
abbrev pub breaks_in : Problem → FormTrees → List Break
breaks_in problem fs = loop_breaks problem.names problem.domain.operators fs

-- the plan is what the forms of a file stand for, and they break nothing; or the fault is the first
-- that they break
abbrev pub ReadsLoop : Problem → FormTrees → Result LoopPlan FormFault → Type 0
ReadsLoop problem fs r = Reads (λ (x : LoopPlan). x) r (breaks_in problem fs) (loop_meant problem.names problem.domain.operators fs)

-- the actions are what the form of the repeated part stands for, with so many before them, and it
-- breaks nothing; or the fault is the first that it breaks
abbrev pub ReadsRepeated : Problem → ℕ → FormTree → Result (List Action) FormFault → Type 0
ReadsRepeated problem before f r = Reads (λ (xs : List Action). xs) r (repeat_breaks problem.names problem.domain.operators before f)
    (repeat_meant problem.names problem.domain.operators f)
