use Rattle.std.proofs.Common.{rules}
use Rattle.tl_run.proofs.commands.check_none.status_of.Goals as goal

pub returns-in-Open : goal.returns-in-Open
returns-in-Open c = search rules
