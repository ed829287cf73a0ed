use Rattle.std.proofs.Common.{◌-◌, ◌∙◌, sym, false, get_or, arith}
use Rattle.std.proofs.lemmas.List.{get_or_default}
use Rattle.tl_check.proofs.LineLaws.{change-passed, change-ahead, changes-done, labels-up_to, labels-to_end}
use Rattle.tl_check.specs.Lines.{truth_from, test_from}
use Rattle.tl_check.specs.declared.line.Change.{Change}
use Rattle.tl_check.proofs.line.line_labels.Goals as goal

pub loop-change-preserved : goal.loop-change-preserved
loop-change-preserved c =
    let t = truth_from false c.args.line.now in
    let i = c.loop-change.change-index in
    let d : Change = record { at = 0; truth = false } in
    let x = get_or c.args.line.now i d in
    let is = get_or_default c.args.line.now i d x c.loop-change-test.true in
    let next = c.brought_between-next.result in
    record {
      from = omega (arith, c.brought_between-next.ensures.from, c.loop-change.invariant.from);
      to = c.brought_between-next.ensures.to;
      later = λ k h l. sym (change-passed c.loop-change.truth c.args.line.now i x k c.loop-change-test.true is
          (c.brought_between-next.ensures.after k h l)) ∙ c.loop-change.invariant.later k
          (omega (arith, h, c.brought_between-next.ensures.from)) l;
      so_far = labels-up_to t c.loop-change.labels c.add.new.self (test_from t c.args.span.from (c.args.span.to - c.args.span.from))
          c.loop-change.at next c.args.span.to c.loop-change.truth c.brought_between-next.ensures.from c.brought_between-next.ensures.to
          (λ k p q. sym (c.loop-change.invariant.later k p (omega (arith, q, c.brought_between-next.ensures.to))) ∙
          change-ahead c.loop-change.truth c.args.line.now i x k c.loop-change-test.true is
          (c.brought_between-next.ensures.before k p q))
          c.in_ok-add.ensures.added c.loop-change.invariant.so_far;
    }

pub returns : goal.returns
returns c =
    let t = truth_from false c.args.line.now in
    labels-to_end t c.loop-change.labels c.add-2.new.self (test_from t c.args.span.from (c.args.span.to - c.args.span.from))
    c.loop-change.at c.args.span.to c.loop-change.truth c.loop-change.invariant.to
    (λ k p q. sym (c.loop-change.invariant.later k p q) ∙ changes-done c.loop-change.truth c.args.line.now c.loop-change.change-index k
    c.loop-change-test.false)
    c.in_ok-add-2.ensures.added c.loop-change.invariant.so_far
