use Rattle.tl_terms.proofs.PlanLaws.{acceptance-by-pair}
use Rattle.tl_terms.proofs.laws.progression.acceptance_depends_on_the_pair.Goals as goal

pub returns : goal.returns
returns c = acceptance-by-pair
