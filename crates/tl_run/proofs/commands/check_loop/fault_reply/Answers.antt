use Rattle.tl_run.proofs.Replied.{loop_range_replied}
use Rattle.tl_run.proofs.commands.check_loop.fault_reply.Goals as goal

pub returns-in_ok-text-in-Range : goal.returns-in_ok-text-in-Range
returns-in_ok-text-in-Range c = λ d p q. loop_range_replied d p q c.args.problem.now c.args.plan.now c.in-Range.after c.in-Range.note
    c.in_ok-text-in-Range.text (rw c.in-Range.is at c.requires) c.in_ok-text-in-Range.ensures
