use Rattle.std.proofs.Common.{◌≡◌, take}
use Rattle.tl_syntax.specs.Settled.{texts_in}
use Rattle.tl_syntax.proofs.names.settled.table_of.Given as goal

abbrev pub invariant-loop-entry : goal.invariant-loop-entry
invariant-loop-entry l = l.names ≡ take l.entry-index (texts_in l.entries)
