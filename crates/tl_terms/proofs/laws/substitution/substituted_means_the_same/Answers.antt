use Rattle.tl_terms.proofs.SubstitutionLaws.{substituted-over}
use Rattle.tl_terms.proofs.laws.substitution.substituted_means_the_same.Goals as goal

pub returns : goal.returns
returns c = substituted-over
