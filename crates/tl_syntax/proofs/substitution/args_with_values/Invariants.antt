use Rattle.std.proofs.Common.{◌≡◌, map, take}
use Rattle.tl_syntax.specs.Bindings.{assignment_of}
use Rattle.tl_syntax.specs.Substitution.{substituted_arg}
use Rattle.tl_syntax.proofs.substitution.args_with_values.Given as goal

abbrev pub invariant-loop-arg : goal.invariant-loop-arg
invariant-loop-arg l = l.out ≡ map (substituted_arg (assignment_of l.bindings)) (take l.arg-index l.arg-items)
