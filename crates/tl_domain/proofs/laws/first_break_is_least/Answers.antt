use Rattle.tl_domain.proofs.FileOrder.{first-break-least}
use Rattle.tl_domain.proofs.laws.first_break_is_least.Goals as goal

pub returns : goal.returns
returns c = first-break-least
