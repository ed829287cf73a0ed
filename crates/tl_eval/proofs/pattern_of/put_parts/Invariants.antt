use Rattle.tl_eval.specs.Frames.{assignment_in}
use Rattle.tl_eval.proofs.PartLists.{LeadingParts}
use Rattle.tl_eval.proofs.pattern_of.put_parts.Given as goal

abbrev pub invariant-loop-i : goal.invariant-loop-i
invariant-loop-i l = LeadingParts l.vars (assignment_in l.frame) l.args l.i l.parts
