use Rattle.tl_check.proofs.LineLaws.{last-is, last-none}
use Rattle.std.proofs.Common.{sym}
use Rattle.tl_check.proofs.tracks.last_truth.Goals as goal

pub returns-in-Some : goal.returns-in-Some
returns-in-Some c = last-is c.args.line.now c.in-Some.change.now (sym c.in-Some.ensures.value)

pub returns-in-None : goal.returns-in-None
returns-in-None c = last-none c.args.line.now (sym c.in-None.ensures.value)
