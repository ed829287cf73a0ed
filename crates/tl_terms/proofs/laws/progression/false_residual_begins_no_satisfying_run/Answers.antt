use Rattle.tl_terms.proofs.PlanLaws.{pruned-right}
use Rattle.tl_terms.proofs.laws.progression.false_residual_begins_no_satisfying_run.Goals as goal

pub returns : goal.returns
returns c = pruned-right
