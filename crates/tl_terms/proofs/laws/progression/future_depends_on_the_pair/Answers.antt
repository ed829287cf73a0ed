use Rattle.tl_terms.proofs.PathLaws.{future-by-pair}
use Rattle.tl_terms.proofs.laws.progression.future_depends_on_the_pair.Goals as goal

pub returns : goal.returns
returns c = future-by-pair
