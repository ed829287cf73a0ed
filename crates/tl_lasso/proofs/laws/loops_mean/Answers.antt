use Rattle.tl_lasso.proofs.MeanLoops.{loop-mean}
use Rattle.tl_lasso.proofs.laws.loops_mean.Goals as goal

pub returns : goal.returns
returns c = loop-mean
