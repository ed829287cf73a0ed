use Rattle.std.proofs.Common.{sym, ◌∙◌}
use Rattle.tl_action.proofs.early.is_plainly_true.Goals as goal

pub returns-in-Some : goal.returns-in-Some
returns-in-Some c h = sym h ∙ c.in-Some.ensures
