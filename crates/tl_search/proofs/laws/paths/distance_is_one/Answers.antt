use Rattle.tl_search.proofs.PathLaws.{distance-one}
use Rattle.tl_search.proofs.laws.paths.distance_is_one.Goals as goal

pub returns : goal.returns
returns c = distance-one
