use Rattle.tl_terms.proofs.SubstitutionLaws.{progression-by-instances}
use Rattle.tl_terms.proofs.laws.substitution.quantifiers_progress_by_instances.Goals as goal

pub returns : goal.returns
returns c = progression-by-instances
