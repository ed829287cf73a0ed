use Rattle.std.proofs.Common.{◌*◌}
use Rattle.tl_progress.specs.FrameValues.{BindsBefore}
use Rattle.tl_progress.proofs.frames.put_few.Given as goal

abbrev pub invariant-loop-four : goal.invariant-loop-four
invariant-loop-four l = BindsBefore (4 * l.four) l.frame l.out
