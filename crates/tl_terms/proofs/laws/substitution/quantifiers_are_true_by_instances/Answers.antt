use Rattle.tl_terms.proofs.SubstitutionLaws.{truth-by-instances}
use Rattle.tl_terms.proofs.laws.substitution.quantifiers_are_true_by_instances.Goals as goal

pub returns : goal.returns
returns c = truth-by-instances
