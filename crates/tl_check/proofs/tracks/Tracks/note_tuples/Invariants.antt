use Rattle.std.proofs.Common.{length}
use Rattle.tl_check.proofs.GatheredLaws.{Noting}
use Rattle.tl_check.specs.Gathered.{KeepCounts}
use Rattle.tl_check.specs.Tracks.{HaveSeenAll}
use Rattle.tl_eval.proofs.TupleRest.{rest_after}
use Rattle.tl_eval.specs.BoundTuples.{ReadsBound}
use Rattle.tl_eval.specs.Frames.{assignment_in}
use Rattle.tl_terms.specs.Bounds.{tuples}
use Rattle.tl_terms.specs.Definitions.{situation_of}
use Rattle.tl_terms.specs.ProblemMeaning.{plain_problem}
use Rattle.tl_check.proofs.tracks.Tracks.note_tuples.Given as goal

abbrev pub decreases-reading : goal.decreases-reading
decreases-reading l = length (rest_after l.tuples.tuple (tuples (situation_of (plain_problem l.along.task.now.problem) l.alike.first.now)
    (assignment_in l.env) l.alike.binder.vars.now l.alike.binder.bound.now))

abbrev pub invariant-reading : goal.invariant-reading
invariant-reading l = record {
  reads : ReadsBound (situation_of (plain_problem l.along.task.now.problem) l.alike.first.now) l.alike.binder.vars.now
      (assignment_in l.env) l.alike.binder.bound.now l.tuples;
  noted : Noting (tuples (situation_of (plain_problem l.along.task.now.problem) l.alike.first.now)
      (assignment_in l.env) l.alike.binder.vars.now l.alike.binder.bound.now) l.alike.span l.fn.self.lines
      (rest_after l.tuples.tuple (tuples (situation_of (plain_problem l.along.task.now.problem) l.alike.first.now)
      (assignment_in l.env) l.alike.binder.vars.now l.alike.binder.bound.now)) l.self.lines;
  covered : HaveSeenAll l.self;
  counts : KeepCounts l.alike.binder l.fn.self l.self;
}
