use Rattle.std.proofs.Common.{◌+◌, length, refl, arith}
use Rattle.std.proofs.lemmas.Option.{slice_get_read}
use Rattle.tl_check.proofs.SamePlaces.{same-begun, same-more}
use Rattle.tl_check.proofs.same_places.same_up_to.Goals as goal

pub loop-i-init : goal.loop-i-init
loop-i-init c = same-begun c.args.bound.now c.args.worlds.now c.args.span.from (c.args.span.from + 1) refl

pub loop-i-preserved : goal.loop-i-preserved
loop-i-preserved c =
    let ws = c.args.worlds.now in
    let some = c.requires.some in
    let within = c.requires.within in
    let here = c.loop-i-test.true in
    same-more c.args.bound.now ws c.args.span.from c.loop-i.i c.index-worlds-span.result c.index-worlds-i.result
    (slice_get_read ws (length ws) c.args.span.from c.index-worlds-span.result refl (omega (arith, some, within)) c.index-worlds-span.is)
    (slice_get_read ws (length ws) c.loop-i.i c.index-worlds-i.result refl (omega (arith, here, within)) c.index-worlds-i.is)
    (c.reads_same.ensures c.if-not-reads_same.false) c.loop-i.invariant

pub returns-clause-same : goal.returns-clause-same
returns-clause-same c = λ k v w h l s t. c.loop-i.invariant k v w h (omega (arith, l, c.loop-i-test.false)) s t
