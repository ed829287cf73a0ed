use Rattle.std.proofs.Common.{[], ◌∷◌}
use Rattle.tl_check.specs.Trails.{IsTracked}
use Rattle.tl_syntax.specs.Lists.{Each}
use Rattle.tl_check.proofs.predicate_tracks.all_begun.Given as goal

abbrev pub invariant-loop-pred : goal.invariant-loop-pred
invariant-loop-pred l = Each (IsTracked (l.first ∷ [])) l.all.items
