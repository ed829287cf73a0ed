use Rattle.tl_terms.proofs.PlanLaws.{accepted-exactly}
use Rattle.tl_terms.proofs.laws.progression.accepted_exactly_where_its_pair_is.Goals as goal

pub returns : goal.returns
returns c = accepted-exactly
