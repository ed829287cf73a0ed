use Rattle.tl_action.proofs.EarlyParts.{known-Not}
use Rattle.tl_action.proofs.early.is_known_part.Goals as goal

pub returns-in-Not : goal.returns-in-Not
returns-in-Not c h = known-Not c.args.bounds.now c.args.j c.args.f.now c.in-Not.part c.deref.result.now c.in-Not.is
    c.deref.ensures (c.is_known_basic.ensures h)
