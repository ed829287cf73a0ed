use Rattle.std.proofs.Common.{refl, arith}
use Rattle.tl_progress.proofs.FrameBindings.{binds-next, slot-is}
use Rattle.tl_progress.proofs.frames.put_slots.Goals as goal

pub loop-slot-init : goal.loop-slot-init
loop-slot-init c = c.requires.before

pub loop-slot-preserved : goal.loop-slot-preserved
loop-slot-preserved c = binds-next c.loop-slot.slot _ _ c.loop-slot.invariant _
    (slot-is _ c.loop-slot.slot _ _ (omega (arith, c.requires.within, c.loop-slot-test.true)) refl) _
    (c.bind_few.ensures c.if-not-bind_few.false)
