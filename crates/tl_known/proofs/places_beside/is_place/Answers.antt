use Rattle.tl_known.proofs.Unchanged.{fact-is}
use Rattle.tl_known.proofs.places_beside.is_place.Goals as goal

pub returns-then-place-fun : goal.returns-then-place-fun
returns-then-place-fun c = fact-is c.args.place.now.fun c.args.fun c.args.place.now.args c.args.args.now c.as_slice.result.now
    c.is_same_row.result c.if-place-fun.true c.as_slice.ensures c.is_same_row.ensures
