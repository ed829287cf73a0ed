-- What the readers of actions answer: what a form stands for, or the first of the rules that it
-- breaks.
use Rattle.std.specs.Prelude.{ℕ, List, Result}
use Rattle.tl_sexpr.specs.Tree.{FormTree, FormTrees}
use Rattle.tl_syntax.specs.declared.action.Action.{Action}
use Rattle.tl_syntax.specs.declared.operator.Operator.{Operator}
use Rattle.tl_syntax.specs.declared.problem.Problem.{Problem}
use Rattle.tl_syntax.specs.declared.value.Value.{Value}
use Rattle.tl_rules.specs.declared.rule.FormFault.{FormFault}
use Rattle.tl_rules.specs.Reads.{Reads}
use Rattle.tl_rules.specs.Rules.{Break}
use Rattle.tl_rules.specs.Values.{value_meant, values_meant}
use Rattle.tl_line.specs.ActionLists.{placed_breaks, actions_breaks}
use Rattle.tl_line.specs.Actions.{named_value_breaks, named_values_breaks, action_breaks}
use Rattle.tl_line.specs.MeaningOfActions.{action_meant, actions_meant}

-- an argument, by the names
abbrev pub ReadsValue : List (List ℕ) → FormTree → Result Value FormFault → Type 0
ReadsValue names f result = Reads (λ (x : Value). x) result (named_value_breaks names f) (value_meant names f)

-- arguments, by the names
abbrev pub ReadsValues : List (List ℕ) → FormTrees → Result (List Value) FormFault → Type 0
ReadsValues names fs result = Reads (λ (xs : List Value). xs) result (named_values_breaks names fs) (values_meant names fs)

-- an action, by the names and the operators
abbrev pub ReadsActionBy : List (List ℕ) → List Operator → FormTree → Result Action FormFault → Type 0
ReadsActionBy names operators f result = Reads (λ (x : Action). x) result (action_breaks names operators f) (action_meant names operators f)

-- the rules that an action of a problem breaks
abbrev pub action_breaks_in : Problem → FormTree → List Break
action_breaks_in p f = action_breaks p.names p.domain.operators f

-- an action of a problem
abbrev pub ReadsAction : Problem → FormTree → Result Action FormFault → Type 0
ReadsAction p f result = ReadsActionBy p.names p.domain.operators f result

-- an action of a problem, with so many actions before it
abbrev pub ReadsPlacedAction : Problem → ℕ → FormTree → Result Action FormFault → Type 0
ReadsPlacedAction p before f result =
    Reads (λ (x : Action). x) result (placed_breaks p.names p.domain.operators before f) (action_meant p.names p.domain.operators f)

-- actions of a problem, with so many actions before them
abbrev pub ReadsActions : Problem → ℕ → FormTrees → Result (List Action) FormFault → Type 0
ReadsActions p before fs result =
    Reads (λ (xs : List Action). xs) result (actions_breaks p.names p.domain.operators before fs)
    (actions_meant p.names p.domain.operators fs)
