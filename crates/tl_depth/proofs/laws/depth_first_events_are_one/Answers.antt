use Rattle.tl_depth.proofs.OneTrace.{one-trace}
use Rattle.tl_depth.proofs.laws.depth_first_events_are_one.Goals as goal

pub returns : goal.returns
returns c = one-trace
