use Rattle.tl_cost.proofs.MeanCosts.{costs-mean}
use Rattle.tl_cost.proofs.laws.costs_mean.Goals as goal

pub returns : goal.returns
returns c = costs-mean
