use Rattle.std.proofs.Common.{rules}
use Rattle.tl_run.proofs.commands.trace.report_text.Goals as goal

pub returns : goal.returns
returns c = search rules
