use Rattle.tl_terms.proofs.RunLaws.{Satisfies-decided}
use Rattle.tl_terms.proofs.laws.runs.satisfaction_is_decided.Goals as goal

pub returns : goal.returns
returns c = Satisfies-decided
