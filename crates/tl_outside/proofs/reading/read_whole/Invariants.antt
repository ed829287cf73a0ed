use Rattle.std.proofs.Common.{length, ◌+◌, ◌-◌, ◌≡◌, ◌≤◌, true}
use Rattle.tl_outside.specs.Told.{told_file, Lacks}
use Rattle.tl_outside.proofs.Calls.{TakesSo}
use Rattle.tl_outside.proofs.Front.{IsFront}
use Rattle.tl_outside.proofs.reading.read_whole.Given as goal

-- what was read so far is the front of the file that was chosen
abbrev pub invariant-takes : goal.invariant-takes
invariant-takes g l = record {
  chosen : g.S.Store.chosen l.store ≡ true;
  files : g.S.Store.files l.store ≡ g.S.Store.files l.fn.store;
  whole : g.S.Store.whole l.store ≡ told_file (g.S.Store.files l.fn.store) l.name;
  taken : g.S.Store.taken l.store ≡ length l.bytes;
  within : length l.bytes ≤ l.limit + 1;
  front : IsFront (g.S.Store.whole l.store) l.bytes;
  found : Lacks (g.S.Store.files l.fn.store) l.name → ⊥;
  calls : TakesSo (g.S.Store.calls l.fn.store) (g.S.Store.calls l.store) l.name l.limit (length l.bytes);
  later : g.S.Store.faults l.fn.store ≤ g.S.Store.faults l.store;
}

abbrev pub decreases-takes : goal.decreases-takes
decreases-takes g l = l.limit + 1 - length l.bytes
