use Rattle.std.proofs.Common.{◌<◌, length}
use Rattle.tl_action.proofs.first_bound.smallest_bound.Given as goal

abbrev pub invariant-loop-k : goal.invariant-loop-k
invariant-loop-k l = l.smallest < length l.operator.bounds
