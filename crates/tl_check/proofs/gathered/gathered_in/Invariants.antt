use Rattle.std.proofs.Common.{◌≤◌, ◌-◌}
use Rattle.tl_check.proofs.GatheredLaws.{Told}
use Rattle.tl_eval.specs.Frames.{assignment_in}
use Rattle.tl_terms.specs.ProblemMeaning.{plain_problem}
use Rattle.tl_check.proofs.gathered.gathered_in.Given as goal

abbrev pub decreases-loop-i : goal.decreases-loop-i
decreases-loop-i l = l.span.to - l.i

abbrev pub invariant-loop-i : goal.invariant-loop-i
invariant-loop-i l = record {
  from : l.span.from ≤ l.i;
  to : l.i ≤ l.span.to;
  told : Told (plain_problem l.along.task.now.problem) l.worlds (assignment_in l.env) l.binder.vars.now l.binder.bound.now l.span.from l.i
      l.tracks;
}
