use Rattle.tl_check.proofs.TrailLaws.{Following}
use Rattle.tl_terms.specs.ProblemMeaning.{plain_problem}
use Rattle.tl_check.proofs.following.follow_plan.Given as goal

abbrev pub invariant-loop-k : goal.invariant-loop-k
invariant-loop-k g l = Following (plain_problem l.follow.task.now.problem) l.follow.keeps l.plan l.k l.trail
