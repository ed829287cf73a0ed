use Rattle.std.proofs.Common.{arith}
use Rattle.tl_run.proofs.Replied.{loop_verdict_replied, of_operators}
use Rattle.tl_run.proofs.commands.check_loop.task_reply.Goals as goal

pub check_loop-requires : goal.check_loop-requires
check_loop-requires c =
    let plan = c.args.plan.now in
    record {
      some = rw c.as_slice-2.ensures c.requires.some;
      few = rw (c.as_slice.ensures, c.as_slice-2.ensures) (omega (arith, c.requires.few));
      stem = rw c.as_slice.ensures (of_operators c.args.task.now.problem plan.stem c.requires.stem);
      cycle = rw c.as_slice-2.ensures (of_operators c.args.task.now.problem plan.cycle c.requires.cycle);
    }

pub returns-in-Ok : goal.returns-in-Ok
returns-in-Ok c = λ d p q. loop_verdict_replied d p q c.args.task.now.problem c.args.plan.now c.in-Ok.verdict c.verdict_reply.result
    (rw (c.as_slice.ensures, c.as_slice-2.ensures) at c.in-Ok.ensures.verdict) c.verdict_reply.ensures.status c.verdict_reply.ensures.text
