use Rattle.tl_formulas.proofs.MeanEffects.{effects-mean}
use Rattle.tl_formulas.proofs.laws.effects_mean.Goals as goal

pub returns : goal.returns
returns c = effects-mean
