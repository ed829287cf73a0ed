use Rattle.std.proofs.Common.{rules}
use Rattle.tl_lasso.proofs.text.loop_text.Goals as goal

pub returns-in-NotClosed : goal.returns-in-NotClosed
returns-in-NotClosed c = search rules
