use Rattle.std.proofs.Common.{◌≡◌, ◌++◌, map}
use Rattle.tl_problem.specs.PlaceEntries.{place_value_of}
use Rattle.tl_problem.proofs.place_map.PlaceMap.into_values.Given as goal

-- the places so far, and after them those that are left
abbrev pub invariant-loop-place : goal.invariant-loop-place
invariant-loop-place l = l.fn.self ≡ l.values ++ map place_value_of l.place-iterator
