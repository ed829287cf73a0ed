use Rattle.std.proofs.Common.{[], refl, ap, ◌∙◌}
use Rattle.tl_check.proofs.HistoryLaws.{history-of}
use Rattle.tl_terms.specs.ProblemMeaning.{world_of}
use Rattle.tl_check.proofs.history.History.of.Goals as goal

pub returns : goal.returns
returns c = λ ws so.
    history-of c.args.tracked.pred ws c.args.tracked.tracks (record {
      pred = c.args.tracked.pred;
      lines =
          c.args.tracked.tracks.lines;
      ever = c.in_ok-ever.ever;
    }) so refl refl
    (c.in_ok-ever.ensures.same ∙ ap (λ fs. world_of fs []) c.as_slice.ensures.value)
