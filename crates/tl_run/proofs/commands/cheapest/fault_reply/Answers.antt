use Rattle.tl_run.proofs.Replied.{cheapest_range_replied}
use Rattle.tl_run.proofs.commands.cheapest.fault_reply.Goals as goal

pub returns-in_ok-text-in-Range : goal.returns-in_ok-text-in-Range
returns-in_ok-text-in-Range c = λ d p k. cheapest_range_replied c.args.nodes d p k c.args.problem.now c.args.costs.now c.in-Range.note
    c.in-Range.path c.in_ok-text-in-Range.text (rw c.in-Range.is at c.requires.cause)
    (rw (c.len-after.ensures, c.as_slice.ensures) at c.in_ok-text-in-Range.ensures)
