use Rattle.std.proofs.Common.{[], ◌∷◌}
use Rattle.tl_check.proofs.HistoryLaws.{each-added}
use Rattle.tl_check.specs.Trails.{IsTracked}
use Rattle.tl_check.proofs.predicate_tracks.all_begun.Goals as goal

pub loop-pred-preserved : goal.loop-pred-preserved
loop-pred-preserved c = each-added (IsTracked (c.args.first.now ∷ [])) c.loop-pred.all.items c.push.new.self.items c.in_ok-tracked.tracked
    c.in_ok-push.ensures.items c.loop-pred.invariant c.in_ok-tracked.ensures
