use Rattle.tl_search.proofs.PathLaws.{walk-open}
use Rattle.tl_search.proofs.laws.paths.open_paths_are_walks.Goals as goal

pub returns : goal.returns
returns c = walk-open
