use Rattle.std.proofs.Common.{rules}
use Rattle.tl_label.proofs.heads.part_of.Goals as goal

pub returns-in-Until : goal.returns-in-Until
returns-in-Until c = search rules
