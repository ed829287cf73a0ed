use Rattle.std.proofs.Common.{inl}
use Rattle.tl_space.specs.Spaces.{kept_of}
use Rattle.tl_run.proofs.commands.trace.report_reply.Goals as goal

pub returns : goal.returns
returns c = λ d p. record {
  right = inl (record {
    kept = kept_of c.args.space.now;
    events = c.args.report.now.events;
    ended = c.args.report.now.outcome;
    right = c.requires.right;
    fit = λ asked. c.in_ok-text.ensures.fits;
    status_is = c.status_of-status.ensures;
    text_is = c.in_ok-text.ensures.text;
  });
}
