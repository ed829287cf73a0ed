use Rattle.std.proofs.Common.{◌+◌, ◌++◌, [], refl, sym, ◌∙◌, arith}
use Rattle.tl_known.proofs.Unchanged.{named-passed}
use Rattle.tl_known.proofs.rows_beside.are_named_from.Goals as goal

pub loop-k-preserved : goal.loop-k-preserved
loop-k-preserved c = record {
  left = λ h. c.loop-k.invariant.left (named-passed (c.args.dels.now ++ c.args.adds.now) c.args.pred c.args.rows.now [] c.loop-k.k
      (c.loop-k.k + 1) c.row.result.now refl (omega (arith, c.loop-k-test.true, c.len.ensures)) c.row.ensures
      (sym c.is_named.ensures ∙ c.if-not-is_named.false) h);
}
