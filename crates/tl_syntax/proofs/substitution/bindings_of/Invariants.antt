use Rattle.std.proofs.Common.{◌≡◌, take}
use Rattle.tl_syntax.proofs.Bindings.{paired}
use Rattle.tl_syntax.proofs.substitution.bindings_of.Given as goal

abbrev pub invariant-loop-i : goal.invariant-loop-i
invariant-loop-i l = l.out ≡ paired (take l.i l.slots) (take l.i l.values)
