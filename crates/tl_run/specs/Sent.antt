-- What a run has sent to its sink.
use Rattle.std.specs.Prelude.{◌≡◌, true, false, ℕ, List, Option}
use Rattle.std.specs.Io.KnownBytes.{append_known}
use Rattle.tl_outside.specs.Puts.{Put, WritesBy}
use Rattle.tl_outside.specs.Told.{GrowsByPart}

-- what a sink tells: the bytes that it took over, and its calls
pub record SinkTold : Type 0 where
  pub bytes : Option (List ℕ)
  pub puts : Option (List Put)

abbrev pub sink_told : Option (List ℕ) → Option (List Put) → SinkTold
sink_told bytes puts = record { bytes = bytes; puts = puts }

-- all of a text was sent: each call was given all that was left, and none failed
abbrev pub SendsAll : SinkTold → SinkTold → List ℕ → Type 0
SendsAll old new text = (new.bytes ≡ append_known old.bytes text) × WritesBy old.puts new.puts text true

-- a front part of a text was sent: each call was given all that was left, and the last one failed
abbrev pub SendsPart : SinkTold → SinkTold → List ℕ → Type 0
SendsPart old new text = GrowsByPart old.bytes new.bytes text × WritesBy old.puts new.puts text false
