-- Plan files: the rules that their forms break. Every form of a plan file is an action.
use Rattle.std.specs.Prelude.{ℕ, List}
use Rattle.tl_sexpr.specs.Tree.{FormTrees}
use Rattle.tl_syntax.specs.declared.operator.Operator.{Operator}
use Rattle.tl_rules.specs.Rules.{Break}
use Rattle.tl_line.specs.ActionLists.{actions_breaks}

-- what the forms of a plan file break
abbrev pub plan_breaks : List (List ℕ) → List Operator → FormTrees → List Break
plan_breaks names operators fs = actions_breaks names operators 0 fs
