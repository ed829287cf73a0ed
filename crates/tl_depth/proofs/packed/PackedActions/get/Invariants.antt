use Rattle.std.proofs.Common.{◌≡◌, map, take}
use Rattle.tl_depth.specs.Packed.{value_of}
use Rattle.tl_depth.proofs.packed.PackedActions.get.Given as goal

abbrev pub invariant-loop-code : goal.invariant-loop-code
invariant-loop-code l = l.args ≡ map (value_of l.self-inside.others.items) (take l.code-index l.codes)
