use Rattle.std.proofs.Common.{◌+◌, ◌++◌, drop, refl, sym, ◌∙◌, arith}
use Rattle.tl_known.proofs.Unchanged.{same-passed, named-passed, named-passed-back}
use Rattle.tl_known.proofs.rows_beside.are_rows_beside.Goals as goal

pub loop-k-preserved-then-same-gt0 : goal.loop-k-preserved-then-same-gt0
loop-k-preserved-then-same-gt0 c = record {
  left = λ h. c.loop-k.invariant.left (same-passed (c.args.dels.now ++ c.args.adds.now) c.args.pred c.args.rows.now c.args.others.now
      c.loop-k.k c.loop-k.l c.same_rows-same.result _ _ refl refl c.same_rows-same.ensures.same h);
}

pub loop-k-preserved-then-is_named : goal.loop-k-preserved-then-is_named
loop-k-preserved-then-is_named c = record {
  left = λ h. c.loop-k.invariant.left (named-passed (c.args.dels.now ++ c.args.adds.now) c.args.pred c.args.rows.now
      (drop c.loop-k.l c.args.others.now) c.loop-k.k (c.loop-k.k + 1) c.row.result.now refl
      (omega (arith, c.loop-k-test.true, c.len.ensures)) c.row.ensures
      (sym c.is_named.ensures ∙ c.if-is_named.true) h);
}

pub loop-k-preserved : goal.loop-k-preserved
loop-k-preserved c = record {
  left = λ h. c.loop-k.invariant.left (named-passed-back (c.args.dels.now ++ c.args.adds.now) c.args.pred
      (drop c.loop-k.k c.args.rows.now) c.args.others.now c.loop-k.l (c.loop-k.l + 1) c.row-else-is_named.result.now refl
      (omega (arith, c.if-l-len.true, c.len-in-loop-k.ensures)) c.row-else-is_named.ensures
      (sym c.is_named-else-is_named.ensures ∙ c.if-is_named-2.true) h);
}
