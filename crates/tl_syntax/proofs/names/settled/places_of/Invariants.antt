use Rattle.std.proofs.Common.{◌≡◌, length}
use Rattle.tl_syntax.specs.Settled.{GivesPlaces, numbers_in}
use Rattle.tl_syntax.proofs.names.settled.places_of.Given as goal

abbrev pub invariant-loop-place : goal.invariant-loop-place
invariant-loop-place l = record {
  count : length l.places.items ≡ length l.entries;
  places : GivesPlaces l.places.items (numbers_in l.entries) l.place;
}
