use Rattle.std.proofs.Common.{◌≡◌, take}
use Rattle.tl_world.proofs.facts.falling.Given as goal

abbrev pub invariant-loop-f : goal.invariant-loop-f
invariant-loop-f l = l.out.items ≡ take l.f-index l.facts
