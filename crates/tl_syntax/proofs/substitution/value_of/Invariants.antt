use Rattle.std.proofs.Common.{◌≡◌, drop}
use Rattle.tl_syntax.specs.Bindings.{assignment_of}
use Rattle.tl_syntax.proofs.substitution.value_of.Given as goal

abbrev pub invariant-loop-binding : goal.invariant-loop-binding
invariant-loop-binding l = assignment_of l.bindings l.slot ≡ assignment_of (drop l.binding-index l.bindings) l.slot
