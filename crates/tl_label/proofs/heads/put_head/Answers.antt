use Rattle.std.proofs.Common.{rules}
use Rattle.tl_label.proofs.heads.put_head.Goals as goal

pub returns-in-ForAll : goal.returns-in-ForAll
returns-in-ForAll c = search rules

pub returns-in-During : goal.returns-in-During
returns-in-During c = search rules
