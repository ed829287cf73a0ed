use Rattle.std.proofs.Common.{refl, arith}
use Rattle.tl_progress.proofs.FrameBindings.{binds-none, binds-next, binds-all, slot-is}
use Rattle.tl_progress.proofs.frames.bindings_in.Goals as goal

pub loop-slot-init : goal.loop-slot-init
loop-slot-init c = binds-none _ _ c.new-out.ensures

pub loop-slot-preserved : goal.loop-slot-preserved
loop-slot-preserved c = binds-next c.loop-slot.slot _ _ c.loop-slot.invariant _
    (slot-is _ c.loop-slot.slot _ _ (omega (arith, c.requires, c.loop-slot-test.true)) refl) _ c.in_ok-bind_slot.ensures

pub returns : goal.returns
returns c = binds-all c.loop-slot.slot _ _ c.loop-slot.invariant (omega (arith, c.requires, c.loop-slot-test.false))
