use Rattle.std.proofs.Common.{inl}
use Rattle.tl_run.proofs.commands.cheapest.outcome_reply.Goals as goal

pub returns : goal.returns
returns c = λ d p k. record {
  right = inl (record {
    what = c.args.outcome.now;
    right = c.requires.right;
    status_is = c.status_of-status.ensures;
    text_is =
        c.in_ok-text.ensures;
  });
}
