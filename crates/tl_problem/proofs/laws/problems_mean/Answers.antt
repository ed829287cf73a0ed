use Rattle.tl_problem.proofs.MeanProblems.{problem-mean}
use Rattle.tl_problem.proofs.laws.problems_mean.Goals as goal

pub returns : goal.returns
returns c = problem-mean
