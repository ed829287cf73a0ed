use Rattle.tl_terms.proofs.StepLaws.{step-exactly}
use Rattle.tl_terms.proofs.laws.steps.step_is_by_its_conditions.Goals as goal

pub returns : goal.returns
returns c = step-exactly
