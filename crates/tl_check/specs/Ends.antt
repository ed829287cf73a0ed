-- Where no label is true.
use Rattle.std.specs.Prelude.{◌≡◌, ◌<◌, ◌≤◌, ℕ, List, Bool, false, slice_index_or}

-- none is
abbrev pub IsFalse : List Bool → Type 0
IsFalse bs = (k : ℕ) → slice_index_or bs k false ≡ false

-- none before this position is
abbrev pub IsFalseBefore : List Bool → ℕ → Type 0
IsFalseBefore bs n = (k : ℕ) → k < n → slice_index_or bs k false ≡ false

-- none from this position on is
abbrev pub IsFalseFrom : List Bool → ℕ → Type 0
IsFalseFrom bs n = (k : ℕ) → n ≤ k → slice_index_or bs k false ≡ false
