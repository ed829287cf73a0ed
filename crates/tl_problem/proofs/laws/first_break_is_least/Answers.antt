use Rattle.tl_problem.proofs.FileOrder.{first-break-least}
use Rattle.tl_problem.proofs.laws.first_break_is_least.Goals as goal

pub returns : goal.returns
returns c = first-break-least
