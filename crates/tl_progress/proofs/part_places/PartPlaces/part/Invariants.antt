use Rattle.std.specs.Bool.{⊤}
use Rattle.tl_progress.proofs.part_places.PartPlaces.part.Given as goal

abbrev pub invariant-loop-place : goal.invariant-loop-place
invariant-loop-place l = ⊤
