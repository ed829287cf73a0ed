use Rattle.std.specs.Prelude.{IfOk}
use Rattle.std.proofs.Common.{subst}
use Rattle.tl_syntax.specs.declared.problem.Problem.{Problem}
use Rattle.tl_run.specs.Commands as commands
use Rattle.tl_run.specs.Inputs.{a_proof}
use Rattle.tl_run.specs.Replies.{Replies}
use Rattle.tl_run.proofs.commands.check_none.reply.Goals as goal

pub returns : goal.returns
returns c = λ d p q.
    subst (λ (m : Problem). IfOk c.space_reply-reply.result (Replies (commands.check_none d p q) (a_proof m c.args.proof.now)))
    c.in_ok-space.ensures.problem (c.space_reply-reply.ensures d p q)
