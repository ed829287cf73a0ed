use Rattle.tl_terms.proofs.RunLaws.{and-keeps}
use Rattle.tl_terms.proofs.laws.progression.simplified_conjunction_keeps_truth.Goals as goal

pub returns : goal.returns
returns c = and-keeps
