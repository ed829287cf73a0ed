use Rattle.std.proofs.Common.{◌-◌, ◌+◌, length, drop}
use Rattle.tl_known.specs.Unchanged.{AreTablesBeside}
use Rattle.tl_known.proofs.tables_beside.are_tables_beside.Given as goal

abbrev pub invariant-loop-i : goal.invariant-loop-i
invariant-loop-i l = record {
  left : AreTablesBeside l.dels l.adds (drop l.i l.tables) (drop l.j l.others) → AreTablesBeside l.dels l.adds l.tables l.others;
}

abbrev pub decreases-loop-i : goal.decreases-loop-i
decreases-loop-i l = (length l.tables - l.i) + (length l.others - l.j)
