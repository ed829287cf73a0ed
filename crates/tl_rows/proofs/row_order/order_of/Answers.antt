use Rattle.std.proofs.Common.{◌≤◌, ◌⊎◌, length, inl, inr, sym, ◌∙◌, arith}
use Rattle.tl_rows.proofs.Order.{by-length}
use Rattle.tl_rows.proofs.row_order.order_of.Goals.{then-loop-k-test+else-k-args, else-loop-k-test}
use Rattle.tl_rows.proofs.row_order.order_of.Goals as goal

pub returns : goal.returns
returns c =
    let ended : (length c.args.row.now ≤ c.loop-k.k) ⊎ (length c.args.args.now ≤ c.loop-k.k) = elim c.loop-k-test.branch [
      | then-loop-k-test+else-k-args w ↦ inr (omega (arith, w.if-k-args))
      | else-loop-k-test w ↦ inl (omega (arith, w.loop-k-test))
    ] in
    c.cmp.ensures ∙ (by-length c.loop-k.k c.args.row.now c.args.args.now c.loop-k.invariant.within c.loop-k.invariant.within_args ended ∙
    sym c.loop-k.invariant.left)
