use Rattle.std.proofs.Common.{◌≡◌, ◌<◌, length, refl, Some, arith, length-set}
use Rattle.std.proofs.lemmas.Grind.{common_steps}
use Rattle.std.specs.List.{slice_get}
use Rattle.tl_syntax.specs.Settled.{numbers_in}
use Rattle.tl_syntax.proofs.Places.{read_at}
use Rattle.tl_syntax.proofs.SettledTexts.{GivesPlaces-more}
use Rattle.tl_syntax.proofs.names.settled.places_of.Goals as goal

pub index_mut-requires : goal.index_mut-requires
index_mut-requires c =
    let entry = c.index-entries-place.result in
    let at : slice_get (numbers_in c.args.entries.now) c.loop-place.place ≡ Some entry.1 =
    read_at (λ e. e.1) c.args.entries.now c.loop-place.place entry entry.1 c.loop-place-test.true c.index-entries-place.is refl in
    let below : entry.1 < length c.args.entries.now = c.requires.below c.loop-place.place entry.1 at in
    grind (arith, common_steps, below, c.loop-place.invariant.count)

pub loop-place-preserved : goal.loop-place-preserved
loop-place-preserved c =
    let entry = c.index-entries-place.result in
    let at : slice_get (numbers_in c.args.entries.now) c.loop-place.place ≡ Some entry.1 =
    read_at (λ e. e.1) c.args.entries.now c.loop-place.place entry entry.1 c.loop-place-test.true c.index-entries-place.is refl in
    let below : entry.1 < length c.loop-place.places.items = rw c.loop-place.invariant.count
    (c.requires.below c.loop-place.place entry.1 at) in
    record {
      count = rw length-set c.loop-place.invariant.count;
      places = GivesPlaces-more c.loop-place.places.items (numbers_in c.args.entries.now) c.loop-place.place entry.1 c.requires.differ at
          below c.loop-place.invariant.places;
    }
