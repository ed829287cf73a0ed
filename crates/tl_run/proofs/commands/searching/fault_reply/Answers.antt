use Rattle.tl_run.proofs.Replied.{prove_none_range_replied, sample_range_replied, search_range_replied, trace_range_replied}
use Rattle.tl_run.proofs.commands.searching.fault_reply.Goals as goal

pub returns-in_ok-text-in-Range-clause-plan : goal.returns-in_ok-text-in-Range-clause-plan
returns-in_ok-text-in-Range-clause-plan c = λ d p. search_range_replied c.args.search d p c.args.problem.now c.in-Range.note c.in-Range.path
    c.in_ok-text-in-Range.text (rw c.in-Range.is at c.requires.cause) (rw
    (c.len-after.ensures, c.as_slice.ensures) at c.in_ok-text-in-Range.ensures)

pub returns-in_ok-text-in-Range-clause-trace : goal.returns-in_ok-text-in-Range-clause-trace
returns-in_ok-text-in-Range-clause-trace c = λ d p. trace_range_replied c.args.search d p c.args.problem.now c.in-Range.note c.in-Range.path
    c.in_ok-text-in-Range.text (rw c.in-Range.is at c.requires.cause) (rw
    (c.len-after.ensures, c.as_slice.ensures) at c.in_ok-text-in-Range.ensures)

pub returns-in_ok-text-in-Range-clause-prove_none : goal.returns-in_ok-text-in-Range-clause-prove_none
returns-in_ok-text-in-Range-clause-prove_none c = λ d p. prove_none_range_replied c.args.search d p c.args.problem.now c.in-Range.note
    c.in-Range.path c.in_ok-text-in-Range.text (rw c.in-Range.is at c.requires.cause)
    (rw (c.len-after.ensures, c.as_slice.ensures) at c.in_ok-text-in-Range.ensures)

pub returns-in_ok-text-in-Range-clause-sample : goal.returns-in_ok-text-in-Range-clause-sample
returns-in_ok-text-in-Range-clause-sample c = λ m same. sample_range_replied m c.args.search c.args.problem.now c.in-Range.note
    c.in-Range.path c.in_ok-text-in-Range.text same (rw c.in-Range.is at c.requires.cause)
    (rw (c.len-after.ensures, c.as_slice.ensures) at c.in_ok-text-in-Range.ensures)
