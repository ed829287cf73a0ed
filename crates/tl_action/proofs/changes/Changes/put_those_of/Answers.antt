use Rattle.std.proofs.Common.{◌≡◌, ◌<◌, List, length, Ok, refl, sym, ap, ◌∙◌, subst}
use Rattle.tl_action.specs.declared.changes.Changes.{Changes}
use Rattle.tl_action.specs.Actions.{HasOperator, IsExecutable}
use Rattle.tl_action.specs.Agreement.{Agree}
use Rattle.tl_action.specs.ChangedWorlds.{world_after}
use Rattle.tl_action.specs.Collected.{Collects}
use Rattle.tl_action.specs.Prepared.{instances_of}
use Rattle.tl_action.proofs.ActionLists.{step-fits}
use Rattle.tl_action.proofs.AppliedOperators.{OperatorAt, operator-below, operator-at, step-known, effects-caused}
use Rattle.tl_action.proofs.NextNamed.{next-named}
use Rattle.tl_action.proofs.Operators.{bound-alike, counted-slots, operator-effects}
use Rattle.tl_eval.specs.Frames.{assignment_in}
use Rattle.tl_syntax.specs.declared.action.Action.{Action}
use Rattle.tl_syntax.specs.declared.operator.Operator.{Operator}
use Rattle.tl_syntax.specs.declared.variable.Var.{Var}
use Rattle.tl_syntax.specs.Assignment.{Assignment, bind, no_values}
use Rattle.tl_syntax.specs.FreeVariables.{slots_of}
use Rattle.tl_syntax.specs.Lists.{Each}
use Rattle.tl_syntax.specs.Signature.{signature_of}
use Rattle.tl_terms.specs.Definitions.{situation_of}
use Rattle.tl_terms.specs.Looked.{looked_in_effects, looks_of}
use Rattle.tl_terms.specs.ProblemMeaning.{plain_operator, plain_problem}
use Rattle.tl_terms.specs.World.{World}
use Rattle.tl_world.specs.declared.task.Task.{Task}
use Rattle.tl_action.proofs.changes.Changes.put_those_of.Goals as goal

fits : (task : Task) (w : World) (a : Action) → IsExecutable (plain_problem task.problem) w a → HasOperator (plain_problem task.problem) a
fits task w a h = step-fits (plain_problem task.problem) w a h

pub bounds-as_slice-a : goal.bounds-as_slice-a
bounds-as_slice-a g c = subst (λ (os : List Operator). c.args.a.now.op < length os) (sym c.as_slice.ensures)
    (operator-below c.args.here.now.task.now.problem c.args.a.now (fits c.args.here.now.task.now c.args.here.now.world.now c.args.a.now
    c.requires.executable))

pub put_values-requires-clause-slots : goal.put_values-requires-clause-slots
put_values-requires-clause-slots g c =
    let at : OperatorAt c.args.here.now.task.now.problem c.args.a.now c.index-as_slice-a.result =
    operator-at c.args.here.now.task.now.problem c.args.a.now c.as_slice.result.now c.index-as_slice-a.result c.as_slice.ensures
    c.index-as_slice-a.is (fits c.args.here.now.task.now c.args.here.now.world.now c.args.a.now c.requires.executable) in
    subst (Each (λ (s : Var). s.slot < 32)) (sym c.as_slice-2.ensures)
    (counted-slots c.index-as_slice-a.result.params at.keeps.params.counted at.keeps.params.few)

pub put_values-requires-clause-same : goal.put_values-requires-clause-same
put_values-requires-clause-same g c =
    let at : OperatorAt c.args.here.now.task.now.problem c.args.a.now c.index-as_slice-a.result =
    operator-at c.args.here.now.task.now.problem c.args.a.now c.as_slice.result.now c.index-as_slice-a.result c.as_slice.ensures
    c.index-as_slice-a.is (fits c.args.here.now.task.now c.args.here.now.world.now c.args.a.now c.requires.executable) in
    ap (λ (ss : List Var). length ss) c.as_slice-2.ensures ∙ (sym at.arity ∙ ap (λ vs. length vs) (sym c.as_slice-3.ensures))

pub collect_all-requires : goal.collect_all-requires
collect_all-requires g c =
    let at : OperatorAt c.args.here.now.task.now.problem c.args.a.now c.index-as_slice-a.result =
    operator-at c.args.here.now.task.now.problem c.args.a.now c.as_slice.result.now c.index-as_slice-a.result c.as_slice.ensures
    c.index-as_slice-a.is (fits c.args.here.now.task.now c.args.here.now.world.now c.args.a.now c.requires.executable) in
    operator-effects (signature_of c.args.here.now.task.now.problem.domain)
    (length c.args.here.now.task.now.problem.names) c.index-as_slice-a.result at.keeps

pub returns-in-Ok-clause-world : goal.returns-in-Ok-clause-world
unfolding world_after
returns-in-Ok-clause-world g c =
    let at : OperatorAt c.args.here.now.task.now.problem c.args.a.now c.index-as_slice-a.result =
    operator-at c.args.here.now.task.now.problem c.args.a.now c.as_slice.result.now c.index-as_slice-a.result c.as_slice.ensures
    c.index-as_slice-a.is (fits c.args.here.now.task.now c.args.here.now.world.now c.args.a.now c.requires.executable) in
    let o = c.index-as_slice-a.result in
    let d = assignment_in c.put_values.new.self in
    let put : d ≡ bind o.params c.args.a.now.args (assignment_in c.args.env.now) = c.put_values.ensures.values ∙
    (λ i. bind (c.as_slice-2.ensures i) (c.as_slice-3.ensures i) (assignment_in c.args.env.now)) in
    let agrees : Agree (slots_of o.params) d (bind o.params c.args.a.now.args no_values) =
    subst (λ (e : Assignment). Agree (slots_of o.params) e (bind o.params c.args.a.now.args no_values)) (sym put)
    (bound-alike o.params c.args.a.now.args (assignment_in c.args.env.now) no_values) in
    let p = plain_problem c.args.here.now.task.now.problem in
    let looked = looked_in_effects (looks_of p c.args.here.now.world.now) (situation_of p c.args.here.now.world.now) d
    (plain_operator o).effects in
    let x = c.collect_all.new.changes in
    step-known c.args.here.now.task.now.problem c.args.here.now.world.now c.args.a.now o at d agrees c.requires.executable looked x
    c.in-Ok.field-0
    (subst (λ (y : Changes). Collects (instances_of p c.args.here.now.world.now d (plain_operator o)) looked y x (Ok c.in-Ok.field-0))
    c.clear.ensures c.in-Ok.ensures.changes)
    (world_after c.args.here.now.world.now x) refl refl

pub returns-in-Ok-clause-named : goal.returns-in-Ok-clause-named
returns-in-Ok-clause-named g c = next-named c.args.here.now.task.now.problem c.args.here.now.world.now c.args.a.now
    (world_after c.args.here.now.world.now c.collect_all.new.changes) (returns-in-Ok-clause-world g c)

pub returns-in-Err-clause-cause : goal.returns-in-Err-clause-cause
returns-in-Err-clause-cause g c =
    let at : OperatorAt c.args.here.now.task.now.problem c.args.a.now c.index-as_slice-a.result =
    operator-at c.args.here.now.task.now.problem c.args.a.now c.as_slice.result.now c.index-as_slice-a.result c.as_slice.ensures
    c.index-as_slice-a.is (fits c.args.here.now.task.now c.args.here.now.world.now c.args.a.now c.requires.executable) in
    let o = c.index-as_slice-a.result in
    let d = assignment_in c.put_values.new.self in
    let put : d ≡ bind o.params c.args.a.now.args (assignment_in c.args.env.now) = c.put_values.ensures.values ∙
    (λ i. bind (c.as_slice-2.ensures i) (c.as_slice-3.ensures i) (assignment_in c.args.env.now)) in
    let agrees : Agree (slots_of o.params) d (bind o.params c.args.a.now.args no_values) =
    subst (λ (e : Assignment). Agree (slots_of o.params) e (bind o.params c.args.a.now.args no_values)) (sym put)
    (bound-alike o.params c.args.a.now.args (assignment_in c.args.env.now) no_values) in
    effects-caused c.args.here.now.task.now.problem c.args.here.now.world.now c.args.a.now o at d agrees c.requires.executable
    c.in-Err.fault c.in-Err.ensures.changes
