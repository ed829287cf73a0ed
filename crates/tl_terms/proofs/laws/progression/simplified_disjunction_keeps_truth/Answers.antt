use Rattle.tl_terms.proofs.RunLaws.{or-keeps}
use Rattle.tl_terms.proofs.laws.progression.simplified_disjunction_keeps_truth.Goals as goal

pub returns : goal.returns
returns c = or-keeps
