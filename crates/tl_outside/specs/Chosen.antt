-- A file of a list that is chosen by its place.
use Rattle.std.specs.Prelude.{◌≡◌, ℕ, ◌-◌, ◌<◌, ◌≤◌, List, length, Option, None, Some}
use Rattle.tl_outside.specs.FileList.{bytes_at}

-- the bytes of the chosen file
abbrev pub chosen_bytes : List (List ℕ × List ℕ) → Option ℕ → Option (List ℕ)
chosen_bytes files None = None
chosen_bytes files (Some index) = Some (bytes_at files index)

-- the chosen file is one of the list, and no more than all of it was taken
abbrev pub IsTakenWithin : List (List ℕ × List ℕ) → Option ℕ → ℕ → Type 0
IsTakenWithin files chosen taken = (index : ℕ) → chosen ≡ Some index → (index < length files) × (taken ≤ length (bytes_at files index))

-- how many bytes of a file are left after this many; none where no file is chosen
abbrev pub left_after : Option (List ℕ) → ℕ → ℕ
left_after None taken = 0
left_after (Some bytes) taken = length bytes - taken
