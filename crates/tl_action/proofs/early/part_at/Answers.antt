use Rattle.tl_action.proofs.EarlyParts.{each-part}
use Rattle.tl_action.proofs.early.part_at.Goals as goal

pub returns-in-And : goal.returns-in-And
returns-in-And c = each-part c.args.pre.now c.in-And.parts c.in-And.is c.item_at.result c.item_at.ensures
