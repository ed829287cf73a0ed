use Rattle.tl_search.proofs.PathLaws.{walk-accepted}
use Rattle.tl_search.proofs.laws.paths.accepted_plans_are_walks.Goals as goal

pub returns : goal.returns
returns c = walk-accepted
