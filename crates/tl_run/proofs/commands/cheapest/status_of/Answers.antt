use Rattle.std.proofs.Common.{rules}
use Rattle.tl_run.proofs.commands.cheapest.status_of.Goals as goal

pub returns-in-Plan : goal.returns-in-Plan
returns-in-Plan c = search rules
