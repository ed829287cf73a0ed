use Rattle.tl_run.proofs.Replied.{explained_replied}
use Rattle.tl_run.proofs.commands.explain.task_reply.Goals as goal

pub returns-in-Ok : goal.returns-in-Ok
returns-in-Ok c = λ d p q. explained_replied d p q c.args.task.now.problem c.args.plan.now c.in-Ok.text c.in-Ok.ensures.text
