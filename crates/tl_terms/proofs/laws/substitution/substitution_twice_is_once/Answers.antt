use Rattle.tl_terms.proofs.SubstitutionLaws.{substituted-twice}
use Rattle.tl_terms.proofs.laws.substitution.substitution_twice_is_once.Goals as goal

pub returns : goal.returns
returns c = substituted-twice
