-- What contracts see of a sink in memory.
use Rattle.std.specs.Prelude.{◌≡◌, ℕ, ◌-◌, Bool, List, Option, Some, length, take}
use Rattle.tl_outside.specs.Script.{fails_at, counted}
use Rattle.tl_outside.specs.declared.memory_sink.MemorySink.{MemorySink}

-- the bytes that it took over
abbrev pub held_of : MemorySink → List ℕ
held_of sink = take sink.used sink.held.items

-- these bytes, which it always tells
abbrev pub told_bytes : MemorySink → Option (List ℕ)
told_bytes sink = Some (held_of sink)

-- how often it has failed
abbrev pub faults_of : MemorySink → ℕ
faults_of sink = sink.script.faults

-- for how many bytes it has room in all
abbrev pub room_of : MemorySink → ℕ
room_of sink = length sink.held.items

-- for how many more bytes it has room
abbrev pub free_of : MemorySink → ℕ
free_of sink = room_of sink - length (held_of sink)

-- the most bytes that one call of put takes over
abbrev pub most_of : MemorySink → ℕ
most_of sink = sink.most

-- the numbers of the calls that fail
abbrev pub fails_of : MemorySink → List ℕ
fails_of sink = sink.script.fails

-- how many calls of put there were, which is the number of the next one
abbrev pub calls_of : MemorySink → ℕ
calls_of sink = sink.script.calls

-- whether the next call is among those that fail
abbrev pub fails_now : MemorySink → Bool
fails_now sink = fails_at (fails_of sink) (calls_of sink)

-- one call is counted, and the numbers and the room are as they were
pub record CountsCall (old new : MemorySink) : Type 0 where
  pub calls : calls_of new ≡ counted (calls_of old)
  pub fails : fails_of new ≡ fails_of old
  pub most : most_of new ≡ most_of old
  pub room : room_of new ≡ room_of old
