use Rattle.tl_action.proofs.EarlyParts.{part-false}
use Rattle.tl_action.proofs.early.item_at.Goals as goal

pub returns-then-place-items : goal.returns-then-place-items
returns-then-place-items c s e h = part-false s e c.args.parts.now c.as_slice-items.result.now c.args.place c.index-items-place.result
    c.as_slice-items.ensures c.if-place-items.true c.index-items-place.is h
