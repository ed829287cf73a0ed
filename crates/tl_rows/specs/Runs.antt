-- Rows in runs that follow one another.
use Rattle.std.specs.Prelude.{◌≡◌, ◌≢◌, ◌<◌, ◌≤◌, ◌+◌, ◌-◌, ◌%◌, ◌^◌, ℕ, List, [], ◌∷◌, ◌++◌, length, take, drop, slice_index_or}
use Rattle.std.specs.declared.cmp.Ordering.TheVariants.{Greater}
use Rattle.tl_syntax.specs.declared.value.Value.{Value}
use Rattle.tl_rows.specs.declared.shared.Run.{Run}
use Rattle.tl_rows.specs.Plain.{row_cmp}

-- the items from a place on up to another one
abbrev pub between : {X : Type 0} → List X → ℕ → ℕ → List X
between xs from to = take (to - from) (drop from xs)

-- the rows of the runs one after another
abbrev pub rows_in : List Run → List (List Value)
rows_in [] = []
rows_in (r ∷ rs) = r.rows.value ++ rows_in rs

-- the place at which run i begins
abbrev pub run_place : List Run → ℕ → ℕ
run_place rs i = length (rows_in (take i rs))

-- the first row of run i
abbrev pub first_row : List Run → ℕ → List Value
first_row rs i = slice_index_or (rows_in rs) (run_place rs i) []

-- each run has rows, and ends where the rows up to its last are counted from n on
abbrev pub AreCounted : ℕ → List Run → Type 0
AreCounted n [] = Unit {0}
AreCounted n (r ∷ rs) = ((n < r.end) × (r.end < 2 ^ 63) × (r.end ≡ n + length r.rows.value)) × AreCounted r.end rs

-- the run with one less at its end, and with one more
abbrev pub lowered : Run → Run
lowered r = record r { end = r.end - 1 }

abbrev pub raised : Run → Run
raised r = record r { end = (r.end + 1) % 2 ^ 64 }

-- the rows are some that follow one another, from a place on
pub record IsPart (all : List (List Value)) (from : ℕ) (rows : List (List Value)) : Type 0 where
  pub within : from + length rows ≤ length all
  pub are : rows ≡ between all from (from + length rows)

-- they are those among which a row with these arguments stands or would stand, where all rise
pub record IsPartFor (args : List Value) (all : List (List Value)) (from : ℕ) (rows : List (List Value)) : Type 0 where
  pub part : IsPart all from rows
  pub filled : 0 < from → 0 < length rows
  pub before : 0 < from → row_cmp (slice_index_or all from []) args ≢ Greater
  pub after : from + length rows < length all → row_cmp (slice_index_or all (from + length rows) []) args ≡ Greater

-- rows of others from k up to n are put at the end, and none from `to` on
abbrev pub GainsUpTo : List (List Value) → List (List Value) → List (List Value) → ℕ → ℕ → ℕ → Type 0
GainsUpTo old new others k to n = (k ≤ n) × (n ≤ to) × (new ≡ old ++ between others k n)

-- the same, and some are
abbrev pub GainsSomeUpTo : List (List Value) → List (List Value) → List (List Value) → ℕ → ℕ → ℕ → Type 0
GainsSomeUpTo old new others k to n = (k < n) × (n ≤ to) × (new ≡ old ++ between others k n)

-- run i begins after the arguments, where there is such a run
abbrev pub BeginsAfter : List Run → ℕ → List Value → Type 0
BeginsAfter rs i args = i < length rs → row_cmp (first_row rs i) args ≡ Greater
