use Rattle.std.proofs.Common.{sym, subst}
use Rattle.std.specs.List.Sorted.{IsPermutation}
use Rattle.std.specs.Option.{IfSome}
use Rattle.tl_world.specs.Gathered.{HasAllTuples}
use Rattle.tl_world.proofs.Gathering.{chain-made}
use Rattle.tl_world.proofs.gathered.gathered.Goals as goal

pub returns : goal.returns
returns c =
    let w = c.args.world.now in
    let p = c.args.pattern.now in
    let us = c.in-Some.tuples.items in
    let all = subst (λ o. IfSome o (λ v. HasAllTuples w p v.items)) c.in-Some.is c.in_ok-found.ensures in
    let moved = subst (IsPermutation us) (sym c.as_slice.ensures.value) c.sorted-list.ensures in
    chain-made w p us c.as_slice.result.now c.in_order.result all moved c.in_order.ensures.order c.in_order.ensures.rows
