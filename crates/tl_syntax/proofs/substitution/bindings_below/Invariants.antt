use Rattle.std.proofs.Common.{◌≡◌, map, take}
use Rattle.tl_syntax.specs.Bindings.{without_value}
use Rattle.tl_syntax.proofs.substitution.bindings_below.Given as goal

abbrev pub invariant-loop-var : goal.invariant-loop-var
invariant-loop-var l = l.out ≡ map without_value (take l.var-index l.var-items)
