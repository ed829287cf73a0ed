use Rattle.tl_problem.proofs.Kept.{problem-kept}
use Rattle.tl_problem.proofs.laws.lawful_problem_keeps.Goals as goal

pub returns : goal.returns
returns c = problem-kept
