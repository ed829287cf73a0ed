use Rattle.tl_terms.proofs.StepLaws.{order-free}
use Rattle.tl_terms.proofs.laws.steps.order_of_instances_does_not_matter.Goals as goal

pub returns : goal.returns
returns c = order-free
