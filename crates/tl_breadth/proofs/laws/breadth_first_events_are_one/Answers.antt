use Rattle.tl_breadth.proofs.OneTrace.{one-trace}
use Rattle.tl_breadth.proofs.laws.breadth_first_events_are_one.Goals as goal

pub returns : goal.returns
returns c = one-trace
