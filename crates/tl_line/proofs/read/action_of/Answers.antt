use Rattle.std.proofs.Common.{IfOk, subst, sym}
use Rattle.std.specs.Prelude.{Result, Ok, Err}
use Rattle.tl_sexpr.specs.Tree.{FormTree}
use Rattle.std.proofs.Common.{List, ℕ}
use Rattle.tl_syntax.specs.declared.action.Action.{Action}
use Rattle.tl_syntax.specs.declared.operator.Operator.{Operator}
use Rattle.tl_sexpr.specs.Tree.{tree_of}
use Rattle.tl_rules.specs.declared.rule.FormFault.{FormFault}
use Rattle.tl_rules.specs.Reads.{Reads}
use Rattle.tl_line.specs.Actions.{action_breaks}
use Rattle.tl_line.specs.MeaningOfActions.{action_meant}
use Rattle.tl_line.specs.NamedActions.{ActionIsNamed}
use Rattle.tl_line.proofs.ActionNames.{action-named}
use Rattle.tl_line.proofs.ActionOrder.{least-fault}
use Rattle.tl_line.proofs.read.action_of.Goals as goal

named : (names : List (List ℕ)) (operators : List Operator) (f : FormTree) (r : Result Action FormFault) →
    Reads (λ (x : Action). x) r (action_breaks names operators f) (action_meant names operators f) →
    IfOk r (λ a. ActionIsNamed names operators a)
named names operators f (Ok a) h = let P : Action → Type 0 = λ a. ActionIsNamed names operators a in
    subst P (sym h.1) (action-named names operators f h.0)
named names operators f (Err e) h = tt

pub returns-clause-named : goal.returns-clause-named
returns-clause-named c = named c.args.problem.now.names c.args.problem.now.domain.operators (tree_of c.args.form.now) c.action.result
    (rw c.as_slice.ensures at c.action.ensures)

pub returns-clause-least : goal.returns-clause-least
returns-clause-least c = λ low next rises. least-fault c.args.problem.now.names c.args.problem.now.domain.operators
    (tree_of c.args.form.now) low next c.action.result (rw c.as_slice.ensures at c.action.ensures) rises
