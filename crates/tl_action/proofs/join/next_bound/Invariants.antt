use Rattle.std.proofs.Common.{◌-◌, length}
use Rattle.tl_action.specs.Join.{arranged, IsPassed}
use Rattle.tl_eval.specs.Frames.{assignment_in}
use Rattle.tl_terms.specs.ProblemMeaning.{plain_problem}
use Rattle.tl_action.proofs.join.next_bound.Given as goal

abbrev pub decreases-loop-k : goal.decreases-loop-k
decreases-loop-k l = length l.new_parameters - l.k

abbrev pub invariant-loop-k : goal.invariant-loop-k
invariant-loop-k l = record {
  passed : IsPassed (plain_problem l.here.task.now.problem) l.here.world.now (arranged l.order.bounds) (assignment_in l.env) l.j l.k;
}
