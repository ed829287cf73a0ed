use Rattle.tl_terms.proofs.IdleLaws.{Satisfies-idle}
use Rattle.tl_terms.proofs.laws.idling.idling_check_is_truth.Goals as goal

pub returns : goal.returns
returns c = Satisfies-idle
