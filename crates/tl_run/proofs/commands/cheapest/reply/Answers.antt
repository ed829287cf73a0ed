use Rattle.std.specs.Prelude.{IfOk}
use Rattle.std.proofs.Common.{subst}
use Rattle.tl_syntax.specs.declared.problem.Problem.{Problem}
use Rattle.tl_run.specs.Commands as commands
use Rattle.tl_run.specs.Inputs.{some_costs}
use Rattle.tl_run.specs.Replies.{Replies}
use Rattle.tl_run.proofs.commands.cheapest.reply.Goals as goal

pub returns : goal.returns
returns c = λ d p k.
    subst (λ (q : Problem). IfOk c.space_reply-reply.result (Replies (commands.cheapest c.args.nodes d p k)
    (some_costs q c.args.costs.now))) c.in_ok-space.ensures.problem (c.space_reply-reply.ensures d p k)
