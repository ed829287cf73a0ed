use Rattle.std.proofs.Common.{take}
use Rattle.tl_depth.specs.Packed.{AddsCodes}
use Rattle.tl_depth.proofs.packed.add_codes.Given as goal

abbrev pub invariant-loop-value : goal.invariant-loop-value
invariant-loop-value l = AddsCodes l.fn.codes.items l.fn.others.items (take l.value-index l.values) l.codes.items l.others.items
