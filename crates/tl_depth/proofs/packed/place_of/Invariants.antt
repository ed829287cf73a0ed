use Rattle.std.proofs.Common.{◌-◌, length}
use Rattle.tl_depth.proofs.packed.place_of.Given as goal

abbrev pub decreases-loop-k : goal.decreases-loop-k
decreases-loop-k l = length l.others - l.k
