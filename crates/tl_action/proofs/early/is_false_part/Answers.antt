use Rattle.std.proofs.Common.{sym}
use Rattle.tl_action.proofs.EarlyParts.{ruled-out}
use Rattle.tl_eval.specs.Frames.{assignment_in}
use Rattle.tl_terms.specs.ProblemMeaning.{plain_problem}
use Rattle.tl_action.proofs.early.is_false_part.Goals as goal

pub returns-then-is_known_part : goal.returns-then-is_known_part
returns-then-is_known_part c h = ruled-out (plain_problem c.args.here.now.task.now.problem) c.args.here.now.world.now
    c.args.order.now.bounds c.args.j (assignment_in c.args.env.now) c.in-Some.part.now c.in-Some.ensures
    (c.is_known_part.ensures c.if-is_known_part.true) (sym (c.is_false.ensures h))
