use Rattle.tl_terms.proofs.SubstitutionLaws.{satisfaction-by-instances}
use Rattle.tl_terms.proofs.laws.substitution.quantifiers_hold_by_instances.Goals as goal

pub returns : goal.returns
returns c = satisfaction-by-instances
