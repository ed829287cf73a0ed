use Rattle.tl_line.proofs.MeanActions.{actions-mean}
use Rattle.tl_line.proofs.laws.actions_mean.Goals as goal

pub returns : goal.returns
returns c = actions-mean
