use Rattle.tl_search.proofs.PathLaws.{pair-snoc}
use Rattle.tl_search.proofs.laws.paths.pair_goes_on.Goals as goal

pub returns : goal.returns
returns c = pair-snoc
