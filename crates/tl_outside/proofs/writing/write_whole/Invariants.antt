use Rattle.std.proofs.Common.{length, ◌-◌, ◌≡◌, ◌≤◌, take}
use Rattle.std.specs.Io.KnownBytes.{append_known}
use Rattle.tl_outside.proofs.Puts.{Leads}
use Rattle.tl_outside.proofs.writing.write_whole.Given as goal

-- the sink has what was done so far, each call was given all that was left, and no fault was counted away
abbrev pub invariant-puts : goal.invariant-puts
invariant-puts g l = record {
  within : l.done ≤ length l.bytes;
  bytes : g.K.Sink.bytes l.out ≡ append_known (g.K.Sink.bytes l.initial.out) (take l.done l.bytes);
  puts : Leads (g.K.Sink.puts l.initial.out) (g.K.Sink.puts l.out) l.bytes l.done;
  later : g.K.Sink.faults l.initial.out ≤ g.K.Sink.faults l.out;
}

abbrev pub decreases-puts : goal.decreases-puts
decreases-puts g l = length l.bytes - l.done
