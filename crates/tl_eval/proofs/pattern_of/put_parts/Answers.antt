use Rattle.tl_eval.specs.Frames.{assignment_in}
use Rattle.tl_eval.proofs.PartLists.{parts-none}
use Rattle.tl_eval.proofs.pattern_of.put_parts.Goals as goal

pub returns-in-None : goal.returns-in-None
returns-in-None c = parts-none c.args.vars.now (assignment_in c.args.frame.now) c.args.args.now c.loop-i.i _ c.part_of.result
    c.loop-i-test.true c.part_of.ensures c.in-None.is
