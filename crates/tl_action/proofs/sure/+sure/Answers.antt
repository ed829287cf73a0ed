use Rattle.std.proofs.Common.{◌∙◌, arith}
use Rattle.tl_action.proofs.SureWalk.{bare-slice, sure-Add, sure-Del, sure-Assign, sure-When, sure-Each, below-Each, sure-begun}
use Rattle.tl_action.proofs.SureWalk.{effect-smaller, sure-on, sure-stop, sure-end}
use Rattle.tl_syntax.specs.TreeOfEffect.{tree_of_effects}
use Rattle.tl_action.proofs.sure.+sure.Goals as goal

pub are_sure-loop-effect-init : goal.are_sure-loop-effect-init
are_sure-loop-effect-init t c = sure-begun c.args.effects.now c.as_slice-effect-items.result.now c.as_slice-effect-items.ensures

pub are_sure-is_sure-requires : goal.are_sure-is_sure-requires
are_sure-is_sure-requires t c =
    let smaller = effect-smaller (tree_of_effects c.args.effects.now) c.as_slice-effect-items.result.now c.loop-effect.effect-index
    c.effect-item.result c.loop-effect-test.true c.effect-item.is c.loop-effect.invariant in
    (omega (arith, smaller, c.decreases), tt)

pub are_sure-returns-then-not-is_sure : goal.are_sure-returns-then-not-is_sure
are_sure-returns-then-not-is_sure t c = sure-stop (tree_of_effects c.args.effects.now) c.as_slice-effect-items.result.now
    c.loop-effect.effect-index c.effect-item.result c.loop-effect-test.true c.effect-item.is c.loop-effect.invariant c.is_sure.result
    c.is_sure.ensures c.if-not-is_sure.true

pub are_sure-loop-effect-preserved : goal.are_sure-loop-effect-preserved
are_sure-loop-effect-preserved t c = sure-on (tree_of_effects c.args.effects.now) c.as_slice-effect-items.result.now
    c.loop-effect.effect-index c.effect-item.result c.loop-effect-test.true c.effect-item.is c.loop-effect.invariant c.is_sure.result
    c.is_sure.ensures c.if-not-is_sure.false

pub are_sure-returns : goal.are_sure-returns
are_sure-returns t c = sure-end (tree_of_effects c.args.effects.now) c.as_slice-effect-items.result.now c.loop-effect.effect-index
    c.loop-effect-test.false c.loop-effect.invariant

pub is_sure-are_sure-requires : goal.is_sure-are_sure-requires
is_sure-are_sure-requires t c =
    let smaller = below-Each c.args.effect.now c.in-Each.field-0 c.in-Each.field-1 c.in-Each.effects c.in-Each.is in
    (omega (arith, smaller, c.decreases), tt)

pub is_sure-returns-in-Add : goal.is_sure-returns-in-Add
is_sure-returns-in-Add t c = c.are_bare.ensures ∙ bare-slice c.in-Add.args c.as_slice.result.now c.as_slice.ensures ∙
    sure-Add c.args.effect.now c.in-Add.field-0 c.in-Add.args c.in-Add.is

pub is_sure-returns-in-Del : goal.is_sure-returns-in-Del
is_sure-returns-in-Del t c = c.are_bare-in-Del.ensures ∙ bare-slice c.in-Del.args c.as_slice-in-Del.result.now c.as_slice-in-Del.ensures ∙
    sure-Del c.args.effect.now c.in-Del.field-0 c.in-Del.args c.in-Del.is

pub is_sure-returns-in-Assign : goal.is_sure-returns-in-Assign
is_sure-returns-in-Assign t c = sure-Assign c.args.effect.now c.in-Assign.field-0 c.in-Assign.field-1 c.in-Assign.field-2 c.in-Assign.is

pub is_sure-returns-in-When : goal.is_sure-returns-in-When
is_sure-returns-in-When t c = sure-When c.args.effect.now c.in-When.field-0 c.in-When.field-1 c.in-When.is

pub is_sure-returns-in-Each : goal.is_sure-returns-in-Each
is_sure-returns-in-Each t c = c.are_sure.ensures ∙ sure-Each c.args.effect.now c.in-Each.field-0 c.in-Each.field-1 c.in-Each.effects
    c.in-Each.is
