use Rattle.std.proofs.Common.{rules}
use Rattle.tl_run.proofs.commands.check_loop.status_of.Goals as goal

pub returns-in-Valid : goal.returns-in-Valid
returns-in-Valid c = search rules

pub returns-in-NotClosed : goal.returns-in-NotClosed
returns-in-NotClosed c = search rules
