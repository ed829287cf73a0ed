use Rattle.std.specs.Prelude.{IfOk}
use Rattle.std.proofs.Common.{subst}
use Rattle.tl_syntax.specs.declared.problem.Problem.{Problem}
use Rattle.tl_run.specs.Commands as commands
use Rattle.tl_run.specs.Inputs.{a_problem}
use Rattle.tl_run.specs.Replies.{Replies}
use Rattle.tl_run.proofs.commands.plan.reply.Goals as goal

pub returns : goal.returns
returns c = λ d p.
    subst (λ (q : Problem). IfOk c.space_reply-reply.result (Replies (commands.search c.args.search d p) (a_problem q)))
    c.in_ok-space.ensures.problem (c.space_reply-reply.ensures d p)
