use Rattle.tl_search.proofs.RangeLaws.{calm-has-no-cause}
use Rattle.tl_search.proofs.laws.range.calm_has_no_cause.Goals as goal

pub returns : goal.returns
returns c = calm-has-no-cause
