use Rattle.tl_check.proofs.TrailLaws.{SoFar}
use Rattle.tl_check.proofs.predicate_tracks.all_go_on.Given as goal

abbrev pub invariant-loop-i : goal.invariant-loop-i
invariant-loop-i l = SoFar l.changes l.next l.at l.i l.initial.all l.all
