-- Files in a list of names and bytes.
use Rattle.std.specs.Prelude.{ℕ, List, get_or, []}
use Rattle.std.specs.FinMap as dict
use Rattle.tl_outside.specs.Told.{Files}

-- the files of a list; under a name that comes twice, the first
abbrev pub listed_files : List (List ℕ × List ℕ) → Files
listed_files files = dict.from_entries files

-- the bytes of the file at this place of the list
abbrev pub bytes_at : List (List ℕ × List ℕ) → ℕ → List ℕ
bytes_at files index = (get_or files index ([], [])).1
