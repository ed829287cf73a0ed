use Rattle.tl_formulas.proofs.MeanFormulas.{formula-mean}
use Rattle.tl_formulas.proofs.laws.formulas_mean.Goals as goal

pub returns : goal.returns
returns c = formula-mean
