use Rattle.tl_terms.proofs.PathLaws.{open-by-residual}
use Rattle.tl_terms.proofs.laws.progression.open_by_its_own_residual.Goals as goal

pub returns : goal.returns
returns c = open-by-residual
