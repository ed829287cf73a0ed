use Rattle.std.proofs.Common.{◌≡◌, map, take}
use Rattle.tl_depth.specs.Packed.{action_of, ArePacked}
use Rattle.tl_depth.proofs.packed.PackedActions.of.Given as goal

abbrev pub invariant-loop-action : goal.invariant-loop-action
invariant-loop-action l = ArePacked l.codes.items l.others.items l.heads.items ×
    (map (action_of l.codes.items l.others.items) l.heads.items ≡ take l.action-index l.actions)
