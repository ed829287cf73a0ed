use Rattle.std.proofs.Common.{arith}
use Rattle.tl_run.proofs.Replied.{of_operators, verdict_replied}
use Rattle.tl_run.proofs.commands.check.task_reply.Goals as goal

pub check-requires : goal.check-requires
check-requires c = record {
  operators = of_operators c.args.task.now.problem c.args.plan.now c.requires.named;
  short = omega (arith, c.requires.few);
}

pub returns-in-Ok : goal.returns-in-Ok
returns-in-Ok c = λ d p q. verdict_replied d p q c.args.task.now.problem c.args.plan.now c.in-Ok.verdict c.verdict_reply.result
    c.in-Ok.ensures.verdict c.verdict_reply.ensures.status c.verdict_reply.ensures.text
