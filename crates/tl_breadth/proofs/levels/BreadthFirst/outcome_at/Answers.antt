use Rattle.std.proofs.Common.{sym, subst, ◌≡◌, true, slice_get, Some}
use Rattle.tl_search.specs.Calls.{AreNamedIn}
use Rattle.tl_breadth.proofs.Judging.{judged-none, judged-spent, judged-plan, judged-last, judged-fault, judged-of-pair}
use Rattle.tl_search.specs.NamedAnswers.{FaultIsNamed}
use Rattle.tl_breadth.proofs.levels.BreadthFirst.outcome_at.Goals as goal

pub returns-then-k-self-clause-outcome : goal.returns-then-k-self-clause-outcome
returns-then-k-self-clause-outcome g c = judged-spent _ _ _ _ c.args.k c.requires c.if-k-self.true

pub returns-in_ok-plan-in-Ok-true-clause-outcome :
    goal.returns-in_ok-plan-in-Ok-true-clause-outcome
returns-in_ok-plan-in-Ok-true-clause-outcome g c =
    judged-plan _ _ _ _ c.args.k c.requires c.in_ok-plan-in-Ok-true.plan
    (λ x e. c.in_ok-plan-in-Ok-true.ensures.path x (subst (λ xs. slice_get xs c.args.k ≡ Some x) (sym c.accepted.ensures.kept) e))
    c.if-k-self.false
    (λ x e. (c.in-Ok-true.ensures.accepted x e).0 c.in-Ok-true.field-0-test)

pub returns-in_ok-plan-in-Ok-true-clause-last : goal.returns-in_ok-plan-in-Ok-true-clause-last
returns-in_ok-plan-in-Ok-true-clause-last g c = judged-last _ c.args.self.now.within c.args.self.now.nodes _ c.args.k c.requires
    c.in_ok-plan-in-Ok-true.plan (λ x e. c.in_ok-plan-in-Ok-true.ensures.path x
    (subst (λ xs. slice_get xs c.args.k ≡ Some x) (sym c.accepted.ensures.kept) e))

pub returns-in_ok-plan-in-Ok-true-clause-plan_named : goal.returns-in_ok-plan-in-Ok-true-clause-plan_named
returns-in_ok-plan-in-Ok-true-clause-plan_named g c = subst (λ t. AreNamedIn t c.in_ok-plan-in-Ok-true.plan) c.accepted.ensures.same.task
    c.in_ok-plan-in-Ok-true.ensures.named

pub returns-in-Ok-false-clause-outcome : goal.returns-in-Ok-false-clause-outcome
returns-in-Ok-false-clause-outcome g c =
    judged-none _ _ _ _ c.args.k c.requires c.if-k-self.false
    (λ x e a. (let t = (c.in-Ok-false.ensures.accepted x e).1 a in let z : c.in-Ok-false.field-0 ≡ true = t in let y =
    c.in-Ok-false.field-0-test in cc))

pub search_node_fault-requires-clause-here : goal.search_node_fault-requires-clause-here
search_node_fault-requires-clause-here g c = judged-of-pair _ _ _ _ c.args.k c.requires c.in-Err.fault c.in-Err.ensures.cause

pub returns-in-Err-clause-fault : goal.returns-in-Err-clause-fault
returns-in-Err-clause-fault g c =
    judged-fault _ _ _ _ c.args.k c.requires c.in-Err.fault c.search_node_fault.result
    (λ x e. c.search_node_fault.ensures.fault x (subst (λ xs. slice_get xs c.args.k ≡ Some x) (sym c.accepted.ensures.kept) e))
    c.in-Err.ensures.cause

pub returns-in-Err-clause-path_named : goal.returns-in-Err-clause-path_named
returns-in-Err-clause-path_named g c = subst (λ t. FaultIsNamed t c.search_node_fault.result) c.accepted.ensures.same.task
    c.search_node_fault.ensures.named
