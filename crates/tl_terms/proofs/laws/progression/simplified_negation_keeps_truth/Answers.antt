use Rattle.tl_terms.proofs.RunLaws.{not-keeps}
use Rattle.tl_terms.proofs.laws.progression.simplified_negation_keeps_truth.Goals as goal

pub returns : goal.returns
returns c = not-keeps
