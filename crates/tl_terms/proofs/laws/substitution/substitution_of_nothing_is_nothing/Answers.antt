use Rattle.tl_terms.proofs.SubstitutionLaws.{substituted-none}
use Rattle.tl_terms.proofs.laws.substitution.substitution_of_nothing_is_nothing.Goals as goal

pub returns : goal.returns
returns c = substituted-none
