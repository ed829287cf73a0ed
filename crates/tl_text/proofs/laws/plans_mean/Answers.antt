use Rattle.tl_line.proofs.MeanActions.{actions-mean}
use Rattle.tl_text.proofs.laws.plans_mean.Goals as goal

pub returns : goal.returns
returns c = λ names operators forms. actions-mean names operators 0 forms
