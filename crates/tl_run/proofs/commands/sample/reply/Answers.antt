use Rattle.std.specs.Prelude.{IfOk}
use Rattle.std.proofs.Common.{subst}
use Rattle.tl_syntax.specs.declared.problem.Problem.{Problem}
use Rattle.tl_run.specs.Commands as commands
use Rattle.tl_run.specs.Inputs.{a_problem}
use Rattle.tl_run.specs.Replies.{Replies}
use Rattle.tl_run.proofs.commands.sample.reply.Goals as goal

pub returns : goal.returns
returns c = subst (λ (q : Problem). IfOk c.space_reply-reply.result (Replies (commands.sample c.args.balls) (a_problem q)))
    c.in_ok-space.ensures.problem c.space_reply-reply.ensures
