use Rattle.std.proofs.Common.{◌-◌, length}
use Rattle.tl_sexpr.specs.Reading.{IsRead}
use Rattle.tl_sexpr.proofs.read.read_forms.Given as goal

abbrev pub invariant-loop-at : goal.invariant-loop-at
invariant-loop-at l = IsRead l.bytes l.reader l.at

abbrev pub decreases-loop-at : goal.decreases-loop-at
decreases-loop-at l = length l.bytes - l.at
