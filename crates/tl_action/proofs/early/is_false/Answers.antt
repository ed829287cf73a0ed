use Rattle.tl_action.specs.UnderFrames.{situation_here}
use Rattle.tl_action.proofs.EarlyParts.{false-Not}
use Rattle.tl_eval.specs.Frames.{assignment_in}
use Rattle.tl_action.proofs.early.is_false.Goals as goal

pub returns-in-Not : goal.returns-in-Not
returns-in-Not c h = false-Not (situation_here c.args.here.now) (assignment_in c.args.env.now) c.args.f.now c.in-Not.part
    c.deref.result.now c.in-Not.is c.deref.ensures (c.is_plainly_true.ensures h)
