-- What contracts see of a store in memory.
use Rattle.std.specs.Prelude.{◌≡◌, ℕ, Bool, List, Option, Some, is_some}
use Rattle.tl_outside.specs.Told.{Files}
use Rattle.tl_outside.specs.FileList.{listed_files}
use Rattle.tl_outside.specs.Chosen.{chosen_bytes, left_after}
use Rattle.tl_outside.specs.Script.{fails_at, counted}
use Rattle.tl_outside.specs.declared.memory_store.MemoryStore.{MemoryStore}

-- its files, which it always tells
abbrev pub told_files : MemoryStore → Option Files
told_files store = Some (listed_files store.files)

-- whether a file is chosen
abbrev pub has_chosen : MemoryStore → Bool
has_chosen store = is_some store.chosen

-- the bytes of the chosen file
abbrev pub whole_of : MemoryStore → Option (List ℕ)
whole_of store = chosen_bytes store.files store.chosen

-- how many of them were taken
abbrev pub taken_of : MemoryStore → ℕ
taken_of store = store.taken

-- how many of them are left
abbrev pub bytes_left : MemoryStore → ℕ
bytes_left store = left_after (whole_of store) (taken_of store)

-- how often it has failed
abbrev pub faults_of : MemoryStore → ℕ
faults_of store = store.script.faults

-- the most bytes that one call of take gives
abbrev pub most_of : MemoryStore → ℕ
most_of store = store.most

-- the numbers of the calls that fail
abbrev pub fails_of : MemoryStore → List ℕ
fails_of store = store.script.fails

-- how many calls of begin and take there were, which is the number of the next one
abbrev pub calls_of : MemoryStore → ℕ
calls_of store = store.script.calls

-- whether the next call is among those that fail
abbrev pub fails_now : MemoryStore → Bool
fails_now store = fails_at (fails_of store) (calls_of store)

-- one call is counted, and the numbers are as they were
pub record CountsCall (old new : MemoryStore) : Type 0 where
  pub calls : calls_of new ≡ counted (calls_of old)
  pub fails : fails_of new ≡ fails_of old
  pub most : most_of new ≡ most_of old
