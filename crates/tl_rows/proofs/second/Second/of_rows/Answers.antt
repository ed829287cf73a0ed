use Rattle.std.proofs.Common.{map, sym, subst}
use Rattle.std.specs.List.Sorted.{IsPermutation}
use Rattle.tl_rows.specs.Second.{exchanged}
use Rattle.tl_rows.proofs.Exchanged.{kept-made}
use Rattle.tl_rows.proofs.second.Second.of_rows.Goals as goal

pub returns : goal.returns
returns c =
    let sorted = subst (IsPermutation (map exchanged c.args.rows.now)) (sym c.as_slice.ensures.value) c.in_ok-all.ensures in
    kept-made c.args.rows.now c.as_slice.result.now c.in_order.result sorted c.in_order.ensures.order c.in_order.ensures.rows
