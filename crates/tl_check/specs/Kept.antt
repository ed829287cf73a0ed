-- What is kept of some runs.
use Rattle.std.specs.Prelude.{◌≡◌, ◌≤◌, ◌<◌, ℕ, List, ◌++◌, length, take, drop, slice_index_or}
use Rattle.tl_check.specs.Runs.{spread}
use Rattle.tl_check.specs.declared.run.Run.{Run}
use Rattle.tl_check.specs.declared.runs.Kept.{Kept}

-- the first labels, so many of them, are those of the whole runs and of the part of the next one
abbrev pub TakesKept : ℕ → List Run → Kept → Type 0
TakesKept count rs kept = take count (spread rs) ≡ spread (take kept.whole rs) ++ take kept.part (spread (drop kept.whole rs))

-- where there is a part, there is a next run that has so many positions
abbrev pub HasPart : List Run → Kept → Type 0
HasPart rs kept = 0 < kept.part → (kept.whole < length rs) × ((r : Run) → kept.part ≤ (slice_index_or rs kept.whole r).count)
