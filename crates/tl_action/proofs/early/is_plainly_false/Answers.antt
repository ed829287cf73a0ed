use Rattle.tl_action.proofs.EarlyParts.{not-found}
use Rattle.tl_action.proofs.early.is_plainly_false.Goals as goal

pub returns-in-Some : goal.returns-in-Some
returns-in-Some c h = not-found c.in-Some.found _ c.in-Some.ensures h
