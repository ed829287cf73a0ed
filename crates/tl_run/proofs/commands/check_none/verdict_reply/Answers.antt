use Rattle.std.proofs.Common.{inl}
use Rattle.tl_run.proofs.commands.check_none.verdict_reply.Goals as goal

pub returns : goal.returns
returns c = λ d p q. record {
  right = inl (record {
    what = c.args.verdict.now;
    right = c.requires.right;
    status_is = c.status_of-status.ensures;
    text_is =
        c.in_ok-text.ensures;
  });
}
