use Rattle.tl_syntax.proofs.SubstitutedFits.{formula-fits, bound-fits}
use Rattle.tl_syntax.proofs.laws.substitution.substitution_keeps_fitting.Goals as goal

pub returns : goal.returns
returns c = record { formula = formula-fits; bound = bound-fits }
