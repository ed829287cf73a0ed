use Rattle.tl_syntax.proofs.SubstitutedFits.{formula-named, bound-named}
use Rattle.tl_syntax.proofs.laws.substitution.substitution_keeps_names.Goals as goal

pub returns : goal.returns
returns c = record { formula = formula-named; bound = bound-named }
