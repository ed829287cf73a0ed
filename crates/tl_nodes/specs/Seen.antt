-- Numbers of which it is told at places that they were seen.
use Rattle.std.specs.Prelude.{◌%◌, ℕ, List, Bool, true, slice_index_or}
use Rattle.std.specs.List.{list_all}

-- each of the numbers was seen; a place that is not there counts as seen
abbrev pub all_seen : List Bool → List ℕ → Bool
all_seen seen ids = list_all (λ q. slice_index_or seen (q % 4096) true) ids
