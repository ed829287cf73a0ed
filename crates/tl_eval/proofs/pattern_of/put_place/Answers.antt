use Rattle.tl_eval.specs.Frames.{assignment_in}
use Rattle.tl_eval.specs.InPlace.{in_place}
use Rattle.tl_eval.proofs.PartLists.{counts-not}
use Rattle.tl_eval.proofs.PatternLaws.{no-parts, no-last}
use Rattle.tl_eval.proofs.pattern_of.put_place.Goals as goal

pub returns-then-not-put_parts : goal.returns-then-not-put_parts
returns-then-not-put_parts c =
    no-parts c.args.vars.now (assignment_in c.args.frame.now) c.args.args.now c.args.value.now
    (in_place c.put_parts.result c.put_parts.new.parts) c.put_parts.ensures
    (counts-not c.put_parts.result c.put_parts.new.parts c.if-not-put_parts.true)

pub returns-in-None : goal.returns-in-None
returns-in-None c = no-last c.args.vars.now (assignment_in c.args.frame.now) c.args.args.now c.args.value.now c.part_of.result
    c.part_of.ensures c.in-None.is
