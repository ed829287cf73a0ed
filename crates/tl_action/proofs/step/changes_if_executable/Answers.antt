use Rattle.std.proofs.Common.{◌≡◌, ◌<◌, List, length, sym, ap, ◌∙◌, subst}
use Rattle.std.specs.List.{list_all}
use Rattle.tl_action.specs.Agreement.{Agree}
use Rattle.tl_action.proofs.AppliedOperators.{OperatorAt, operator-below, operator-at, step-stopped, step-answered, answer-caused}
use Rattle.tl_action.proofs.NextNamed.{answer-named}
use Rattle.tl_action.proofs.Operators.{bound-alike, counted-slots}
use Rattle.tl_eval.specs.Frames.{assignment_in}
use Rattle.tl_syntax.specs.declared.operator.Operator.{Operator}
use Rattle.tl_syntax.specs.declared.variable.Var.{Var}
use Rattle.tl_syntax.specs.Assignment.{Assignment, bind, no_values}
use Rattle.tl_syntax.specs.Fits.{BoundFits}
use Rattle.tl_syntax.specs.FreeVariables.{slots_of}
use Rattle.tl_syntax.specs.Lists.{Each}
use Rattle.tl_syntax.specs.Signature.{signature_of}
use Rattle.tl_terms.specs.Bounds.{bound_true}
use Rattle.tl_terms.specs.Definitions.{situation_of}
use Rattle.tl_terms.specs.ProblemMeaning.{plain_problem}
use Rattle.tl_action.proofs.step.changes_if_executable.Goals as goal

pub bounds-as_slice-a : goal.bounds-as_slice-a
bounds-as_slice-a g c = subst (λ (os : List Operator). c.args.a.now.op < length os) (sym c.as_slice.ensures)
    (operator-below c.args.here.now.task.now.problem c.args.a.now c.requires.operator)

pub put_values-requires-clause-slots : goal.put_values-requires-clause-slots
put_values-requires-clause-slots g c =
    let at : OperatorAt c.args.here.now.task.now.problem c.args.a.now c.index-as_slice-a.result =
    operator-at c.args.here.now.task.now.problem c.args.a.now c.as_slice.result.now c.index-as_slice-a.result c.as_slice.ensures
    c.index-as_slice-a.is c.requires.operator in
    subst (Each (λ (s : Var). s.slot < 32)) (sym c.as_slice-2.ensures)
    (counted-slots c.index-as_slice-a.result.params at.keeps.params.counted at.keeps.params.few)

pub put_values-requires-clause-same : goal.put_values-requires-clause-same
put_values-requires-clause-same g c =
    let at : OperatorAt c.args.here.now.task.now.problem c.args.a.now c.index-as_slice-a.result =
    operator-at c.args.here.now.task.now.problem c.args.a.now c.as_slice.result.now c.index-as_slice-a.result c.as_slice.ensures
    c.index-as_slice-a.is c.requires.operator in
    ap (λ (ss : List Var). length ss) c.as_slice-2.ensures ∙ (sym at.arity ∙ ap (λ vs. length vs) (sym c.as_slice-3.ensures))

pub bounds_hold-requires : goal.bounds_hold-requires
bounds_hold-requires g c =
    let at : OperatorAt c.args.here.now.task.now.problem c.args.a.now c.index-as_slice-a.result =
    operator-at c.args.here.now.task.now.problem c.args.a.now c.as_slice.result.now c.index-as_slice-a.result c.as_slice.ensures
    c.index-as_slice-a.is c.requires.operator in
    subst (Each (BoundFits (signature_of c.args.here.now.task.now.problem.domain))) (sym c.as_slice-4.ensures) at.keeps.bounds_fit

pub prepared-requires : goal.prepared-requires
prepared-requires g c =
    let at : OperatorAt c.args.here.now.task.now.problem c.args.a.now c.index-as_slice-a.result =
    operator-at c.args.here.now.task.now.problem c.args.a.now c.as_slice.result.now c.index-as_slice-a.result c.as_slice.ensures
    c.index-as_slice-a.is c.requires.operator in
    at.keeps

pub returns-then-not-bounds_hold-clause-changes : goal.returns-then-not-bounds_hold-clause-changes
returns-then-not-bounds_hold-clause-changes g c =
    let at : OperatorAt c.args.here.now.task.now.problem c.args.a.now c.index-as_slice-a.result =
    operator-at c.args.here.now.task.now.problem c.args.a.now c.as_slice.result.now c.index-as_slice-a.result c.as_slice.ensures
    c.index-as_slice-a.is c.requires.operator in
    let o = c.index-as_slice-a.result in
    let d = assignment_in c.put_values.new.self in
    let put : d ≡ bind o.params c.args.a.now.args (assignment_in c.args.env.now) = c.put_values.ensures.values ∙
    (λ i. bind (c.as_slice-2.ensures i) (c.as_slice-3.ensures i) (assignment_in c.args.env.now)) in
    let agrees : Agree (slots_of o.params) d (bind o.params c.args.a.now.args no_values) =
    subst (λ (e : Assignment). Agree (slots_of o.params) e (bind o.params c.args.a.now.args no_values)) (sym put)
    (bound-alike o.params c.args.a.now.args (assignment_in c.args.env.now) no_values) in
    let bounds = ap (list_all (bound_true (situation_of (plain_problem c.args.here.now.task.now.problem) c.args.here.now.world.now) d))
    (sym c.as_slice-4.ensures) ∙ sym c.bounds_hold.ensures in
    sym (step-stopped c.args.here.now.task.now.problem c.args.here.now.world.now c.args.a.now o at d agrees
    (bounds ∙ c.if-not-bounds_hold.true))

pub returns-clause-changes : goal.returns-clause-changes
returns-clause-changes g c =
    let at : OperatorAt c.args.here.now.task.now.problem c.args.a.now c.index-as_slice-a.result =
    operator-at c.args.here.now.task.now.problem c.args.a.now c.as_slice.result.now c.index-as_slice-a.result c.as_slice.ensures
    c.index-as_slice-a.is c.requires.operator in
    let o = c.index-as_slice-a.result in
    let d = assignment_in c.put_values.new.self in
    let put : d ≡ bind o.params c.args.a.now.args (assignment_in c.args.env.now) = c.put_values.ensures.values ∙
    (λ i. bind (c.as_slice-2.ensures i) (c.as_slice-3.ensures i) (assignment_in c.args.env.now)) in
    let agrees : Agree (slots_of o.params) d (bind o.params c.args.a.now.args no_values) =
    subst (λ (e : Assignment). Agree (slots_of o.params) e (bind o.params c.args.a.now.args no_values)) (sym put)
    (bound-alike o.params c.args.a.now.args (assignment_in c.args.env.now) no_values) in
    let bounds = ap (list_all (bound_true (situation_of (plain_problem c.args.here.now.task.now.problem) c.args.here.now.world.now) d))
    (sym c.as_slice-4.ensures) ∙ sym c.bounds_hold.ensures in
    step-answered c.args.here.now.task.now.problem c.args.here.now.world.now c.args.a.now o at d agrees
    (bounds ∙ c.if-not-bounds_hold.false) c.prepared.result c.prepared.ensures.changes

pub returns-clause-named : goal.returns-clause-named
returns-clause-named g c = answer-named c.args.here.now.task.now.problem c.args.here.now.world.now c.args.a.now c.prepared.result
    (returns-clause-changes g c)

pub returns-clause-cause : goal.returns-clause-cause
returns-clause-cause g c =
    let at : OperatorAt c.args.here.now.task.now.problem c.args.a.now c.index-as_slice-a.result =
    operator-at c.args.here.now.task.now.problem c.args.a.now c.as_slice.result.now c.index-as_slice-a.result c.as_slice.ensures
    c.index-as_slice-a.is c.requires.operator in
    let o = c.index-as_slice-a.result in
    let d = assignment_in c.put_values.new.self in
    let put : d ≡ bind o.params c.args.a.now.args (assignment_in c.args.env.now) = c.put_values.ensures.values ∙
    (λ i. bind (c.as_slice-2.ensures i) (c.as_slice-3.ensures i) (assignment_in c.args.env.now)) in
    let agrees : Agree (slots_of o.params) d (bind o.params c.args.a.now.args no_values) =
    subst (λ (e : Assignment). Agree (slots_of o.params) e (bind o.params c.args.a.now.args no_values)) (sym put)
    (bound-alike o.params c.args.a.now.args (assignment_in c.args.env.now) no_values) in
    let bounds = ap (list_all (bound_true (situation_of (plain_problem c.args.here.now.task.now.problem) c.args.here.now.world.now) d))
    (sym c.as_slice-4.ensures) ∙ sym c.bounds_hold.ensures in
    answer-caused c.args.here.now.task.now.problem c.args.here.now.world.now c.args.a.now o at d agrees
    (bounds ∙ c.if-not-bounds_hold.false) c.prepared.result c.prepared.ensures.changes
