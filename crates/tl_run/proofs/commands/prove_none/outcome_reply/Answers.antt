use Rattle.std.proofs.Common.{inl, inr}
use Rattle.tl_run.proofs.commands.prove_none.outcome_reply.Goals as goal

pub returns : goal.returns
returns c = λ d p. record {
  right = inr
      (inl (record {
        what = c.args.outcome.now;
        right = (c.requires.right, c.requires.leaves, λ asked. c.in_ok-text.ensures.fits);
        status_is = c.status_of-status.ensures;
        text_is = c.in_ok-text.ensures.text;
      }));
}
