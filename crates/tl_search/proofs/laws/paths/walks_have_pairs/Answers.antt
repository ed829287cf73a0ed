use Rattle.tl_search.proofs.PathLaws.{walk-pair}
use Rattle.tl_search.proofs.laws.paths.walks_have_pairs.Goals as goal

pub returns : goal.returns
returns c = walk-pair
