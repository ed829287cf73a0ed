use Rattle.std.proofs.Common.{[], ◌∷◌}
use Rattle.tl_check.proofs.HistoryLaws.{tracks-begun}
use Rattle.tl_check.proofs.TrailLaws.{tracked-first}
use Rattle.tl_check.proofs.predicate_tracks.PredicateTracks.begun.Goals as goal

pub returns : goal.returns
returns c =
    tracked-first c.args.first.now c.args.pred c.new-tracks.result c.note_first.new.self
    (tracks-begun c.args.pred (c.args.first.now ∷ []) c.new-tracks.result c.new-tracks.ensures.none c.new-tracks.ensures.covered)
    c.in_ok-note_first.ensures.told c.in_ok-note_first.ensures.covered
