use Rattle.tl_terms.proofs.SameWorlds.{world-tells}
use Rattle.tl_world.proofs.laws.equality_is_sameness.Goals as goal

pub returns : goal.returns
returns c = world-tells
