use Rattle.std.proofs.Common.{◌≡◌, List, length, sym, ap, ◌∙◌, subst}
use Rattle.std.proofs.lemmas.List.{with_items_is}
use Rattle.std.specs.Vec.{with_items}
use Rattle.tl_action.specs.ChangedWorlds.{world_after}
use Rattle.tl_check.proofs.TrailLaws.{follows-on}
use Rattle.tl_check.specs.Trails.{KeepsOne, TrackAllOn}
use Rattle.tl_check.specs.declared.predicate_tracks.PredicateTracks.{PredicateTracks}
use Rattle.tl_check.specs.declared.trail.Trail.{Trail}
use Rattle.tl_terms.specs.World.{World}
use Rattle.tl_check.proofs.trail.Trail.go_on.Goals as goal

pub returns : goal.returns
returns c =
    let changes = c.args.changes.now in
    let next = c.in_ok-next.next in
    let made : next ≡ world_after c.args.self.now.world changes = c.in_ok-next.ensures in
    let all = c.args.self.now.tracks in
    let after = c.all_go_on.new.all in
    let size : length after ≡ all.len = c.all_go_on.auto.all ∙ (ap (λ (ts : List PredicateTracks). length ts) c.as_mut_slice.ensures.value ∙
    sym all.ok.0) in
    let told = subst (λ (ts : List PredicateTracks). TrackAllOn changes next c.args.at ts after) c.as_mut_slice.ensures.value
    c.in_ok-all_go_on.ensures in
    let new : Trail = record { world = next; kept = c.keep.new.kept; tracks = with_items all after } in
    follows-on c.args.keeps changes c.args.at c.args.self.now new made
    (subst (λ (w : World). KeepsOne c.args.keeps w c.args.self.now.kept.items c.keep.new.kept.items) made c.in_ok-keep.ensures)
    (subst (λ (w : World). TrackAllOn changes w c.args.at all.items new.tracks.items) made
    (subst (λ (ts : List PredicateTracks). TrackAllOn changes next c.args.at all.items ts) (sym (with_items_is all after size)) told))
