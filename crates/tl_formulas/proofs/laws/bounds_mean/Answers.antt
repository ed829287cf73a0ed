use Rattle.tl_formulas.proofs.MeanBounds.{bound-mean}
use Rattle.tl_formulas.proofs.laws.bounds_mean.Goals as goal

pub returns : goal.returns
returns c = bound-mean
