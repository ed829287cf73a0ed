use Rattle.tl_eval.specs.Frames.{assignment_in}
use Rattle.tl_eval.proofs.KeptLaws.{LeadingSlots}
use Rattle.tl_eval.proofs.kept.keep.Given as goal

abbrev pub invariant-loop-i : goal.invariant-loop-i
invariant-loop-i l = LeadingSlots (assignment_in l.frame) l.vars l.i l.values
