use Rattle.tl_terms.proofs.PlanLaws.{residual-law}
use Rattle.tl_terms.proofs.laws.progression.residual_holds_after_the_worlds.Goals as goal

pub returns : goal.returns
returns c = residual-law
