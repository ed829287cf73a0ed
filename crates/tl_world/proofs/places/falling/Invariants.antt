use Rattle.std.proofs.Common.{◌≡◌, take}
use Rattle.tl_world.proofs.places.falling.Given as goal

abbrev pub invariant-loop-p : goal.invariant-loop-p
invariant-loop-p l = l.out.items ≡ take l.p-index l.sets
