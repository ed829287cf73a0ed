use Rattle.std.proofs.Common.{◌≡◌, take}
use Rattle.tl_check.proofs.same_places.are_same_places.Given as goal

abbrev pub invariant-loop-k : goal.invariant-loop-k
invariant-loop-k l = take l.k l.left ≡ take l.k l.right
