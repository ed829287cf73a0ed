use Rattle.tl_check.specs.Gathered.{ReadSameUpTo}
use Rattle.tl_check.proofs.same_places.same_up_to.Given as goal

abbrev pub invariant-loop-i : goal.invariant-loop-i
invariant-loop-i l = ReadSameUpTo l.bound l.worlds l.span.from l.i
