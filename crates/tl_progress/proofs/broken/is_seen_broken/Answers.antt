use Rattle.std.proofs.Common.{◌≡◌, ℕ, List, true, get_or, sym, subst, arith}
use Rattle.tl_nodes.specs.Fits.{all_below}
use Rattle.tl_syntax.specs.Lists.{Among}
use Rattle.tl_progress.proofs.Below.{among-at}
use Rattle.tl_progress.proofs.PutLayers.{at-below}
use Rattle.tl_progress.proofs.broken.is_seen_broken.Goals as goal

pub is_broken-requires : goal.is_broken-requires
is_broken-requires c =
    let below = subst (λ (ids : List ℕ). all_below c.args.conjunction.now.at ids ≡ true)
    (sym c.as_slice-part-items.ensures) c.requires.below in
    let less = at-below c.args.conjunction.now.at c.as_slice-part-items.result.now c.loop-part.part-index below c.loop-part-test.true in
    omega (arith, less, c.requires.inside)

pub returns-then-is_broken : goal.returns-then-is_broken
returns-then-is_broken c = λ h. (
  get_or c.as_slice-part-items.result.now c.loop-part.part-index 0,
  subst (λ (ids : List ℕ). Among (get_or c.as_slice-part-items.result.now c.loop-part.part-index 0) ids) c.as_slice-part-items.ensures
      (among-at c.as_slice-part-items.result.now c.loop-part.part-index c.loop-part-test.true),
  c.is_broken.ensures c.if-is_broken.true,
)
