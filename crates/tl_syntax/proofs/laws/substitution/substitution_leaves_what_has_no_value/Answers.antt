use Rattle.tl_syntax.proofs.SubstitutedLeaves.{formula-left, bound-left}
use Rattle.tl_syntax.proofs.laws.substitution.substitution_leaves_what_has_no_value.Goals as goal

pub returns : goal.returns
returns c = record { formula = formula-left; bound = bound-left }
