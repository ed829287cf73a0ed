use Rattle.std.proofs.Common.{◌∙◌}
use Rattle.tl_check.proofs.trail.Trail.worlds.Goals as goal

pub returns : goal.returns
returns c = λ ws follows. c.as_slice.ensures.value ∙ follows.kept
