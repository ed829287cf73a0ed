use Rattle.tl_syntax.proofs.SubstitutedFits.{formula-state}
use Rattle.tl_syntax.proofs.laws.substitution.substitution_keeps_state_formulas.Goals as goal

pub returns : goal.returns
returns c = formula-state
