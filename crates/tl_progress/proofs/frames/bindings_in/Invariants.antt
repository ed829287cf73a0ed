use Rattle.tl_progress.specs.FrameValues.{BindsBefore}
use Rattle.tl_progress.proofs.frames.bindings_in.Given as goal

abbrev pub invariant-loop-slot : goal.invariant-loop-slot
invariant-loop-slot l = BindsBefore l.slot l.frame l.out
