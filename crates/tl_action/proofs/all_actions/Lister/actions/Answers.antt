use Rattle.std.proofs.Common.{slice_set, ◌≡◌, ◌<◌, List, length, get_or, slice_get, Some, ap, ◌∙◌, arith}
use Rattle.tl_action.proofs.ActionLists.{row-cause, actions-begun, actions-on, actions-all, actions-fit}
use Rattle.tl_action.proofs.NamedActions.{actions-named}
use Rattle.tl_action.proofs.AppliedOperators.{operator-there, operators-count, operator-keeps}
use Rattle.tl_action.proofs.OwnOrders.{order-at, put-again}
use Rattle.tl_eval.specs.Frames.{assignment_in}
use Rattle.tl_syntax.specs.declared.operator.Operator.{Operator}
use Rattle.tl_terms.specs.ProblemMeaning.{plain_operator, plain_problem}
use Rattle.tl_action.proofs.all_actions.Lister.actions.Goals as goal

pub loop-op-init : goal.loop-op-init
loop-op-init c = (actions-begun (plain_problem c.args.task.now.problem) c.args.w.now c.new-found.result c.new-found.ensures, c.requires)

pub rows_of-requires-clause-keeps : goal.rows_of-requires-clause-keeps
rows_of-requires-clause-keeps c =
    let ops = c.args.task.now.problem.domain.operators in
    let many = ap (λ (os : List Operator). length os) c.as_slice-operators.ensures in
    let below : c.loop-op.op < length ops = omega (arith, c.loop-op-test.true, many) in
    let is : c.index-operators-op.result ≡ get_or ops c.loop-op.op c.index-operators-op.result = c.index-operators-op.is ∙
    ap (λ (os : List Operator). get_or os c.loop-op.op c.index-operators-op.result) c.as_slice-operators.ensures in
    let there : slice_get (plain_problem c.args.task.now.problem).operators c.loop-op.op ≡
    Some (plain_operator c.index-operators-op.result) = operator-there c.args.task.now.problem c.loop-op.op c.index-operators-op.result
    below is in
    operator-keeps c.args.task.now.problem c.loop-op.op c.index-operators-op.result below is

pub rows_of-requires-clause-own : goal.rows_of-requires-clause-own
rows_of-requires-clause-own c =
    let ops = c.args.task.now.problem.domain.operators in
    let many = ap (λ (os : List Operator). length os) c.as_slice-operators.ensures in
    let below : c.loop-op.op < length ops = omega (arith, c.loop-op-test.true, many) in
    let is : c.index-operators-op.result ≡ get_or ops c.loop-op.op c.index-operators-op.result = c.index-operators-op.is ∙
    ap (λ (os : List Operator). get_or os c.loop-op.op c.index-operators-op.result) c.as_slice-operators.ensures in
    order-at ops c.loop-op.op c.index-operators-op.result c.index_mut.result.now below is
    (c.index_mut.ensures.value ∙ ap (λ orders. get_or orders c.loop-op.op c.index_mut.result.now) c.loop-op.invariant.1)

pub returns-in-Err-clause-cause : goal.returns-in-Err-clause-cause
returns-in-Err-clause-cause c =
    let ops = c.args.task.now.problem.domain.operators in
    let many = ap (λ (os : List Operator). length os) c.as_slice-operators.ensures in
    let below : c.loop-op.op < length ops = omega (arith, c.loop-op-test.true, many) in
    let is : c.index-operators-op.result ≡ get_or ops c.loop-op.op c.index-operators-op.result = c.index-operators-op.is ∙
    ap (λ (os : List Operator). get_or os c.loop-op.op c.index-operators-op.result) c.as_slice-operators.ensures in
    let there : slice_get (plain_problem c.args.task.now.problem).operators c.loop-op.op ≡
    Some (plain_operator c.index-operators-op.result) = operator-there c.args.task.now.problem c.loop-op.op c.index-operators-op.result
    below is in
    row-cause (plain_problem c.args.task.now.problem) c.args.w.now (plain_operator c.index-operators-op.result) c.loop-op.op there
    (assignment_in c.loop-op.env) c.in-Err.fault c.in-Err.ensures.cause

pub loop-op-preserved : goal.loop-op-preserved
loop-op-preserved c =
    let ops = c.args.task.now.problem.domain.operators in
    let many = ap (λ (os : List Operator). length os) c.as_slice-operators.ensures in
    let below : c.loop-op.op < length ops = omega (arith, c.loop-op-test.true, many) in
    let is : c.index-operators-op.result ≡ get_or ops c.loop-op.op c.index-operators-op.result = c.index-operators-op.is ∙
    ap (λ (os : List Operator). get_or os c.loop-op.op c.index-operators-op.result) c.as_slice-operators.ensures in
    let there : slice_get (plain_problem c.args.task.now.problem).operators c.loop-op.op ≡
    Some (plain_operator c.index-operators-op.result) = operator-there c.args.task.now.problem c.loop-op.op c.index-operators-op.result
    below is in (
      actions-on (plain_problem c.args.task.now.problem) c.args.w.now c.loop-op.op (plain_operator c.index-operators-op.result)
          (assignment_in c.loop-op.env) c.in-Ok.rows.items c.loop-op.found c.push_rows.new.found there c.in-Ok.ensures.rows
          c.in_ok-push_rows-in-Ok.ensures c.loop-op.invariant.0,
      ap (λ orders. slice_set orders c.loop-op.op c.rows_of.new.own) c.loop-op.invariant.1 ∙
          put-again ops c.loop-op.op c.index-operators-op.result c.rows_of.new.own below is c.rows_of.ensures.own,
    )

pub returns-clause-actions : goal.returns-clause-actions
returns-clause-actions c =
    let many = ap (λ (os : List Operator). length os) c.as_slice-operators.ensures in
    let count = operators-count c.args.task.now.problem in
    actions-all (plain_problem c.args.task.now.problem) c.args.w.now c.loop-op.op c.loop-op.found
    (omega (arith, c.loop-op-test.false, many, count)) c.loop-op.invariant.0

pub returns-clause-fit : goal.returns-clause-fit
returns-clause-fit c = actions-fit (plain_problem c.args.task.now.problem) c.args.w.now c.loop-op.op c.loop-op.found c.loop-op.invariant.0

pub returns-clause-named : goal.returns-clause-named
returns-clause-named c = λ named. actions-named c.args.task.now.problem c.args.w.now named c.loop-op.op c.loop-op.found
    c.loop-op.invariant.0
