use Rattle.std.proofs.Common.{[], ◌∷◌, ap, sym}
use Rattle.tl_check.proofs.TrailLaws.{kept-first}
use Rattle.tl_terms.specs.World.{World}
use Rattle.tl_check.proofs.trail.Trail.begun.Goals as goal

pub returns : goal.returns
returns c = record {
  last = ([], ap (λ (w : World). w ∷ []) (sym c.in_ok-world.ensures));
  kept = kept-first c.args.keeps c.args.first.now c.new-kept.result.items c.keep.new.kept.items c.new-kept.ensures.items
      c.in_ok-keep.ensures;
  tracks = c.in_ok-tracks.ensures;
}
