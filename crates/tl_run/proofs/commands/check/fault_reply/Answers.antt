use Rattle.tl_run.proofs.Replied.{check_range_replied, range_replied}
use Rattle.tl_run.proofs.commands.check.fault_reply.Goals as goal

pub returns-in_ok-text-in-Range-clause-check : goal.returns-in_ok-text-in-Range-clause-check
returns-in_ok-text-in-Range-clause-check c = λ d p q. range_replied d p q c.args.problem.now c.args.plan.now c.in-Range.after
    c.in-Range.note c.in_ok-text-in-Range.text (rw c.in-Range.is at c.requires) c.in_ok-text-in-Range.ensures

pub returns-in_ok-text-in-Range-clause-sample : goal.returns-in_ok-text-in-Range-clause-sample
returns-in_ok-text-in-Range-clause-sample c = λ m found. check_range_replied m c.args.problem.now c.args.plan.now c.in-Range.after
    c.in-Range.note c.in_ok-text-in-Range.text found (rw c.in-Range.is at c.requires) c.in_ok-text-in-Range.ensures
