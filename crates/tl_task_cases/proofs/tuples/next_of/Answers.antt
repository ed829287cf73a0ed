use Rattle.std.proofs.Common.{◌≡◌, ◌<◌, length, rules, arith}
use Rattle.tl_task_cases.proofs.FirstOperator.{bound-fits, parameters-differ, parameters-occur}
use Rattle.tl_task_cases.proofs.tuples.next_of.Goals as goal

pub next_after-requires-clause-differ : goal.next_after-requires-clause-differ
next_after-requires-clause-differ c =
    let some : 0 < length c.as_slice-operators.result.now = search rules in
    parameters-differ c.args.task.now.problem c.as_slice-operators.result.now c.index-operators-0.result c.as_slice-operators.ensures some
    c.index-operators-0.is

pub next_after-requires-clause-occur : goal.next_after-requires-clause-occur
next_after-requires-clause-occur c =
    let some : 0 < length c.as_slice-operators.result.now = search rules in
    let one : length c.as_slice-bounds.result.now ≡ 1 = first_of (search rules, omega (arith, c.if-bounds-ne1.false)) in
    parameters-occur c.args.task.now.problem c.as_slice-operators.result.now c.index-operators-0.result c.as_slice-operators.ensures some
    c.index-operators-0.is c.as_slice-bounds.result.now c.index-bounds-0.result c.as_slice-bounds.ensures one c.index-bounds-0.is

pub next_after-requires-clause-fits : goal.next_after-requires-clause-fits
next_after-requires-clause-fits c =
    let some : 0 < length c.as_slice-operators.result.now = search rules in
    let one : length c.as_slice-bounds.result.now ≡ 1 = first_of (search rules, omega (arith, c.if-bounds-ne1.false)) in
    bound-fits c.args.task.now.problem c.as_slice-operators.result.now c.index-operators-0.result c.as_slice-operators.ensures some
    c.index-operators-0.is c.as_slice-bounds.result.now c.index-bounds-0.result c.as_slice-bounds.ensures one c.index-bounds-0.is
