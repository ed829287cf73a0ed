use Rattle.tl_search.specs.Calls.{AreNamedIn}
use Rattle.tl_search.specs.Faults.{TellsPair}
use Rattle.tl_search.proofs.FaultLaws.{acceptance-of-pair}
use Rattle.tl_depth.proofs.NamedStacks.{levels-named, path-of-named}
use Rattle.std.proofs.Common.{◌≡◌, true, refl, sym, ap, ◌∙◌, subst, arith}
use Rattle.tl_depth.specs.Levels.{path_of}
use Rattle.tl_search.specs.declared.arrival.Arrival.TheVariants as arrival
use Rattle.tl_depth.proofs.Arriving.{judged-spent, judged-plan, its-pair, judged-fault}
use Rattle.tl_depth.proofs.SeenPairs.{accepted-pair, acceptance-pair}
use Rattle.tl_depth.proofs.stack.DepthFirst.outcome_at.Goals as goal

pub returns-then-k-nodes-clause-judged : goal.returns-then-k-nodes-clause-judged
returns-then-k-nodes-clause-judged g c calls s =
    let a = s.arrives in
    judged-spent _ _ _ _ (arrival.Fresh c.args.k) _ calls s c.args.k a.0 a.1.0 a.1.1 a.1.2 a.1.3 c.if-k-nodes.true refl

pub returns-in_ok-plan-in-Ok-true-clause-judged : goal.returns-in_ok-plan-in-Ok-true-clause-judged
returns-in_ok-plan-in-Ok-true-clause-judged g c calls s =
    let a = s.arrives in
    let at = its-pair _ _ _ _ (arrival.Fresh c.args.k) _ calls s c.args.k a.0 a.1.0 a.1.1 a.1.2 a.1.3 in
    judged-plan _ _ _ _ (arrival.Fresh c.args.k) _ calls s c.args.k a.0 a.1.0 a.1.1 a.1.2 a.1.3 c.if-k-nodes.false
    ((accepted-pair _ _ c.args.k _ c.in-Ok-true.ensures.accepted a.1.0 at).0 c.in-Ok-true.field-0-test) c.in_ok-plan-in-Ok-true.plan
    (c.in_ok-plan-in-Ok-true.ensures {u = tt} ∙ ap path_of c.as_slice.ensures.value) refl

pub levels_fault-requires : goal.levels_fault-requires
levels_fault-requires g c =
    let s = c.requires.arrived.1 in
    let a = s.arrives in
    let at = its-pair _ _ _ _ (arrival.Fresh c.args.k) _ c.requires.arrived.0 s c.args.k a.0 a.1.0 a.1.1 a.1.2 a.1.3 in
    acceptance-of-pair _ a.1.0 c.in-Err.fault (acceptance-pair _ _ c.args.k _ c.in-Err.ensures.cause a.1.0 at)

pub returns-in-Err-clause-fault : goal.returns-in-Err-clause-fault
returns-in-Err-clause-fault g c =
    let s = c.requires.arrived.1 in
    let a = s.arrives in
    let at = its-pair _ _ _ _ (arrival.Fresh c.args.k) _ c.requires.arrived.0 s c.args.k a.0 a.1.0 a.1.1 a.1.2 a.1.3 in
    judged-fault _ _ _ _ (arrival.Fresh c.args.k) _ c.requires.arrived.0 s a.1.0 a.1.1 c.in-Err.fault c.levels_fault.result
    (subst (λ ls. TellsPair (path_of ls) c.in-Err.fault c.levels_fault.result) c.as_slice-in-Err.ensures.value c.levels_fault.ensures)
    (acceptance-pair _ _ c.args.k _ c.in-Err.ensures.cause a.1.0 at)

pub returns-in-Ok-false-clause-judged : goal.returns-in-Ok-false-clause-judged
returns-in-Ok-false-clause-judged g c = (
  omega (arith, c.if-k-nodes.false),
  λ x e a. (let t = (accepted-pair _ _ c.args.k _ c.in-Ok-false.ensures.accepted x e).1 a in
      absurd (let z : c.in-Ok-false.field-0 ≡ true = t in let y = c.in-Ok-false.field-0-test in cc)),
)

pub returns-in_ok-plan-in-Ok-true-clause-plan_named : goal.returns-in_ok-plan-in-Ok-true-clause-plan_named
returns-in_ok-plan-in-Ok-true-clause-plan_named g c = subst (AreNamedIn (g.S.SearchSpace.task c.args.space.now))
    (sym (c.in_ok-plan-in-Ok-true.ensures {u = tt} ∙ ap path_of c.as_slice.ensures.value))
    (path-of-named (g.S.SearchSpace.task c.args.space.now) c.args.self.now.stack.items c.requires.named.stack)

pub returns-in-Err-clause-path_named : goal.returns-in-Err-clause-path_named
returns-in-Err-clause-path_named g c =
    levels-named (g.S.SearchSpace.task c.args.space.now) c.args.self.now.stack.items c.in-Err.fault c.levels_fault.result
    (subst (λ ls. TellsPair (path_of ls) c.in-Err.fault c.levels_fault.result) c.as_slice-in-Err.ensures.value c.levels_fault.ensures)
    c.requires.named.stack
