use Rattle.std.proofs.Common.{sym, ◌∙◌, arith}
use Rattle.tl_check.proofs.SamePlaces.{rows-more}
use Rattle.tl_check.proofs.same_places.are_same_places.Goals as goal

pub loop-k-preserved : goal.loop-k-preserved
loop-k-preserved c =
    let i = c.loop-k-test.true in
    let x = c.len-count.ensures in
    let y = c.len.ensures in
    let same = c.if-count-len.false in
    rows-more c.args.left.now c.args.right.now c.loop-k.k (omega (arith, i, x)) (omega (arith, i, x, y, same)) c.loop-k.invariant
    (λ d. sym (c.args-else-not-is_same.ensures d) ∙ (c.are_same.ensures.0 c.if-not-are_same.false ∙ c.args-else-not-is_same-2.ensures d))
    (λ d. sym (c.value.ensures d) ∙ (c.is_same.ensures.0 c.if-not-is_same.false ∙ c.value-in-loop-k.ensures d))
