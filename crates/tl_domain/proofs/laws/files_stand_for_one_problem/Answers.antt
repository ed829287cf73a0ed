use Rattle.tl_domain.proofs.FilesStand.{one-problem}
use Rattle.tl_domain.proofs.laws.files_stand_for_one_problem.Goals as goal

pub returns : goal.returns
returns c = one-problem
