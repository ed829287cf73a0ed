use Rattle.std.proofs.Common.{length}
use Rattle.tl_check.proofs.TupleLaws.{IsReading}
use Rattle.tl_eval.proofs.TupleRest.{rest_after}
use Rattle.tl_eval.specs.BoundTuples.{ReadsBound}
use Rattle.tl_eval.specs.Frames.{assignment_in}
use Rattle.tl_terms.specs.Bounds.{tuples}
use Rattle.tl_terms.specs.Definitions.{situation_of}
use Rattle.tl_terms.specs.ProblemMeaning.{plain_problem}
use Rattle.tl_check.proofs.tuples.tuples_in.Given as goal

abbrev pub decreases-reading : goal.decreases-reading
decreases-reading l = length (rest_after l.tuples.tuple (tuples (situation_of (plain_problem l.along.task.now.problem) l.w)
    (assignment_in l.env) l.binder.vars.now l.binder.bound.now))

abbrev pub invariant-reading : goal.invariant-reading
invariant-reading l = record {
  reads : ReadsBound (situation_of (plain_problem l.along.task.now.problem) l.w) l.binder.vars.now
      (assignment_in l.env) l.binder.bound.now l.tuples;
  so_far : IsReading (situation_of (plain_problem l.along.task.now.problem) l.w)
      (assignment_in l.env) l.binder.vars.now l.binder.bound.now l.tuples.tuple l.facts.items;
}
