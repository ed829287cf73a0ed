use Rattle.std.proofs.Common.{Some, arith, refl, rules, subst, sym, ◌∙◌, to_z, of_z, w64}
use Rattle.std.proofs.lemmas.Int.{to_z-of_z}
use mir.Val.{SFits}
use Rattle.tl_eval.specs.Frames.{assignment_in}
use Rattle.tl_syntax.specs.TreeOfTerm.{tree_of_term, tree_of_terms}
use Rattle.tl_eval.proofs.TermLaws.{few-Place, few-Arith, some-nodes, at-Var, at-Val, at-Place, at-Arith, on-None, on-Err, IsInteger}
use Rattle.tl_eval.proofs.TermLaws.{operand-is, on-second-None, on-second-Err, on-both, begun, item-few, pushed, undefined, noted, ended}
use Rattle.tl_eval.proofs.term_value.+value_of_term.Goals.{put_values_of_terms-in-Var+in-Some, put_values_of_terms-in-Val, put_values_of_terms-in_default+in-Ok-Some}
use Rattle.tl_eval.proofs.term_value.+value_of_term.Goals as goal

pub value_of_term-value_of_place-requires : goal.value_of_term-value_of_place-requires
value_of_term-value_of_place-requires t c =
    let few = few-Place c.args.t.now c.in-Place.fun c.in-Place.args c.in-Place.is c.requires in
    (omega (arith, few.smaller, c.decreases), (few.small, few.few))

pub value_of_term-value_of_operation-requires : goal.value_of_term-value_of_operation-requires
value_of_term-value_of_operation-requires t c =
    let few = few-Arith c.args.t.now c.in-Arith.op c.in-Arith.left c.in-Arith.right c.in-Arith.at c.deref.result.now
    c.deref-in-Arith.result.now c.in-Arith.is c.deref.ensures c.deref-in-Arith.ensures c.requires in
    (omega (arith, few.smaller, c.decreases), (few.first, few.second))

pub value_of_operation-value_of_term-requires : goal.value_of_operation-value_of_term-requires
value_of_operation-value_of_term-requires t c = (omega (arith, some-nodes (tree_of_term c.args.right.now), c.decreases), c.requires.left)

pub value_of_operation-value_of_term-requires-in-Ok-Some : goal.value_of_operation-value_of_term-requires-in-Ok-Some
value_of_operation-value_of_term-requires-in-Ok-Some t c = (
  omega (arith, some-nodes (tree_of_term c.args.left.now), c.decreases),
  c.requires.right,
)

pub value_of_term-returns-in-Var : goal.value_of_term-returns-in-Var
value_of_term-returns-in-Var t c = at-Var c.args.w.now (assignment_in c.args.frame.now) c.args.t.now c.in-Var.var c.value_in.result
    c.in-Var.is c.value_in.ensures

pub value_of_term-returns-in-Val : goal.value_of_term-returns-in-Val
value_of_term-returns-in-Val t c = at-Val c.args.w.now (assignment_in c.args.frame.now) c.args.t.now c.in-Val.value c.in-Val.is

pub value_of_term-returns-in-Place : goal.value_of_term-returns-in-Place
value_of_term-returns-in-Place t c = at-Place c.args.w.now (assignment_in c.args.frame.now) c.args.t.now c.in-Place.fun c.in-Place.args
    c.value_of_place.result c.in-Place.is c.value_of_place.ensures

pub value_of_term-returns-in-Arith : goal.value_of_term-returns-in-Arith
value_of_term-returns-in-Arith t c =
    at-Arith c.args.w.now (assignment_in c.args.frame.now) c.args.t.now c.in-Arith.op c.in-Arith.left c.in-Arith.right c.in-Arith.at
    c.deref.result.now c.deref-in-Arith.result.now c.value_of_operation.result
    c.in-Arith.is c.deref.ensures c.deref-in-Arith.ensures c.value_of_operation.ensures

pub value_of_operation-returns-in-Ok-None : goal.value_of_operation-returns-in-Ok-None
value_of_operation-returns-in-Ok-None t c =
    on-None c.args.w.now (assignment_in c.args.frame.now) c.args.operator.op c.args.left.now c.args.right.now c.args.operator.at
    c.value_of_term.result c.integer_of.result c.in-Ok-None.field-0
    c.value_of_term.ensures c.integer_of.ensures c.in-Ok-None.is c.in-Ok-None.field-0-is

pub value_of_operation-returns-in-Err : goal.value_of_operation-returns-in-Err
value_of_operation-returns-in-Err t c =
    on-Err c.args.w.now (assignment_in c.args.frame.now) c.args.operator.op c.args.left.now c.args.right.now c.args.operator.at
    c.value_of_term.result c.integer_of.result c.in-Err.note
    c.value_of_term.ensures c.integer_of.ensures c.in-Err.is

pub value_of_operation-returns-in-Ok-None-integer_of : goal.value_of_operation-returns-in-Ok-None-integer_of
value_of_operation-returns-in-Ok-None-integer_of t c =
    let first = operand-is c.args.w.now (assignment_in c.args.frame.now) c.args.left.now c.value_of_term.result c.integer_of.result
    c.in-Ok-Some.field-0 c.in-Ok-Some.a c.value_of_term.ensures c.integer_of.ensures c.in-Ok-Some.is c.in-Ok-Some.field-0-is in
    on-second-None c.args.w.now (assignment_in c.args.frame.now) c.args.operator.op c.args.left.now c.args.right.now c.args.operator.at
    c.in-Ok-Some.a c.value_of_term-in-Ok-Some.result c.integer_of-in-Ok-Some.result c.in-Ok-None-integer_of.field-0
    first c.value_of_term-in-Ok-Some.ensures c.integer_of-in-Ok-Some.ensures c.in-Ok-None-integer_of.is c.in-Ok-None-integer_of.field-0-is

pub value_of_operation-returns-in-Err-integer_of : goal.value_of_operation-returns-in-Err-integer_of
value_of_operation-returns-in-Err-integer_of t c =
    let first = operand-is c.args.w.now (assignment_in c.args.frame.now) c.args.left.now c.value_of_term.result c.integer_of.result
    c.in-Ok-Some.field-0 c.in-Ok-Some.a c.value_of_term.ensures c.integer_of.ensures c.in-Ok-Some.is c.in-Ok-Some.field-0-is in
    on-second-Err c.args.w.now (assignment_in c.args.frame.now) c.args.operator.op c.args.left.now c.args.right.now c.args.operator.at
    c.in-Ok-Some.a c.value_of_term-in-Ok-Some.result c.integer_of-in-Ok-Some.result c.in-Err-integer_of.note
    first c.value_of_term-in-Ok-Some.ensures c.integer_of-in-Ok-Some.ensures c.in-Err-integer_of.is

pub value_of_operation-returns-in-Ok-Some-integer_of : goal.value_of_operation-returns-in-Ok-Some-integer_of
value_of_operation-returns-in-Ok-Some-integer_of t c =
    let w = c.args.w.now in
    let e = assignment_in c.args.frame.now in
    let a = c.in-Ok-Some.a in
    let b = c.in-Ok-Some-integer_of.b in
    let first = operand-is w e c.args.left.now c.value_of_term.result c.integer_of.result c.in-Ok-Some.field-0 a c.value_of_term.ensures
    c.integer_of.ensures c.in-Ok-Some.is c.in-Ok-Some.field-0-is in
    let second = operand-is w e c.args.right.now c.value_of_term-in-Ok-Some.result c.integer_of-in-Ok-Some.result
    c.in-Ok-Some-integer_of.field-0 b c.value_of_term-in-Ok-Some.ensures c.integer_of-in-Ok-Some.ensures c.in-Ok-Some-integer_of.is
    c.in-Ok-Some-integer_of.field-0-is in
    let a-fits : SFits w64 a = search rules in
    let b-fits : SFits w64 b = search rules in
    on-both w e c.args.operator.op c.args.left.now c.args.right.now c.args.operator.at (to_z w64 (of_z w64 a))
    (to_z w64 (of_z w64 b)) c.operate.result
    (subst (IsInteger w e c.args.left.now) (sym (to_z-of_z w64 a a-fits)) first)
    (subst (IsInteger w e c.args.right.now) (sym (to_z-of_z w64 b b-fits)) second) c.operate.ensures

pub put_values_of_terms-loop-term-init : goal.put_values_of_terms-loop-term-init
put_values_of_terms-loop-term-init t c = begun c.args.w.now (assignment_in c.args.frame.now) c.args.ts.now c.as_slice-term-items.result.now
    c.args.row.now c.as_slice-term-items.ensures c.requires.empty c.requires.small c.requires.few

pub put_values_of_terms-value_of_term-requires : goal.put_values_of_terms-value_of_term-requires
put_values_of_terms-value_of_term-requires t c =
    let item = item-few c.args.w.now (assignment_in c.args.frame.now) (tree_of_terms c.args.ts.now) c.as_slice-term-items.result.now
    c.loop-term.term-index c.term-item.result c.loop-term.row c.loop-term-test.true c.term-item.is c.loop-term.invariant in
    (omega (arith, item.smaller, c.decreases), item.small)

pub put_values_of_terms-returns-in-Ok-None : goal.put_values_of_terms-returns-in-Ok-None
put_values_of_terms-returns-in-Ok-None t c =
    undefined c.args.w.now (assignment_in c.args.frame.now) (tree_of_terms c.args.ts.now) c.as_slice-term-items.result.now
    c.loop-term.term-index c.term-item.result c.loop-term.row c.in-Ok-None.field-0 c.loop-term-test.true c.term-item.is
    c.loop-term.invariant c.in-Ok-None.ensures c.in-Ok-None.field-0-is

pub put_values_of_terms-returns-in-Err : goal.put_values_of_terms-returns-in-Err
put_values_of_terms-returns-in-Err t c =
    noted c.args.w.now (assignment_in c.args.frame.now) (tree_of_terms c.args.ts.now) c.as_slice-term-items.result.now
    c.loop-term.term-index c.term-item.result c.loop-term.row c.in-Err.note c.loop-term-test.true c.term-item.is c.loop-term.invariant
    c.in-Err.ensures

pub put_values_of_terms-returns-in-None : goal.put_values_of_terms-returns-in-None
put_values_of_terms-returns-in-None t c =
    undefined c.args.w.now (assignment_in c.args.frame.now) (tree_of_terms c.args.ts.now) c.as_slice-term-items.result.now
    c.loop-term.term-index c.term-item.result c.loop-term.row c.value_in.result c.loop-term-test.true c.term-item.is
    c.loop-term.invariant
    (at-Var c.args.w.now (assignment_in c.args.frame.now) c.term-item.result c.in-Var.var c.value_in.result c.in-Var.is c.value_in.ensures)
    c.in-None.is

pub put_values_of_terms-loop-term-preserved : goal.put_values_of_terms-loop-term-preserved
put_values_of_terms-loop-term-preserved t c =
    elim c.match-term.branch [
      | put_values_of_terms-in-Var+in-Some w ↦
          pushed c.args.w.now (assignment_in c.args.frame.now) (tree_of_terms c.args.ts.now) c.as_slice-term-items.result.now
          c.loop-term.term-index c.term-item.result c.loop-term.row _ w.value_in.result w.in-Some.value c.loop-term-test.true
          c.term-item.is c.loop-term.invariant
          (at-Var c.args.w.now (assignment_in c.args.frame.now) c.term-item.result w.in-Var.var w.value_in.result w.in-Var.is
          w.value_in.ensures) w.in-Some.is (w.row-is ∙ w.push.ensures)
      | put_values_of_terms-in-Val w ↦
          pushed c.args.w.now (assignment_in c.args.frame.now) (tree_of_terms c.args.ts.now) c.as_slice-term-items.result.now
          c.loop-term.term-index c.term-item.result c.loop-term.row _
          (Some w.in-Val.value) w.in-Val.value c.loop-term-test.true c.term-item.is c.loop-term.invariant
          (at-Val c.args.w.now (assignment_in c.args.frame.now) c.term-item.result w.in-Val.value w.in-Val.is) refl
          (w.row-is ∙ w.push-in-Val.ensures)
      | put_values_of_terms-in_default+in-Ok-Some w ↦
          pushed c.args.w.now (assignment_in c.args.frame.now) (tree_of_terms c.args.ts.now) c.as_slice-term-items.result.now
          c.loop-term.term-index c.term-item.result c.loop-term.row _ w.in-Ok-Some.field-0 w.in-Ok-Some.value c.loop-term-test.true
          c.term-item.is c.loop-term.invariant
          w.in-Ok-Some.ensures w.in-Ok-Some.field-0-is (w.row-is ∙ w.push-in-Ok-Some.ensures)
    ]

pub put_values_of_terms-returns : goal.put_values_of_terms-returns
put_values_of_terms-returns t c =
    ended c.args.w.now (assignment_in c.args.frame.now) (tree_of_terms c.args.ts.now) c.as_slice-term-items.result.now
    c.loop-term.term-index c.loop-term.row c.loop-term-test.false c.loop-term.invariant
