use Rattle.tl_search.proofs.RangeLaws.{calm-with-fewer}
use Rattle.tl_search.proofs.laws.range.calm_with_fewer_actions.Goals as goal

pub returns : goal.returns
returns c = calm-with-fewer
