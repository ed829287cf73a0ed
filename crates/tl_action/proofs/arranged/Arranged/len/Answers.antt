use Rattle.std.proofs.Common.{sym, ◌∙◌}
use Rattle.tl_action.proofs.BoundOrders.{moved-length}
use Rattle.tl_action.proofs.arranged.Arranged.len.Goals as goal

pub returns : goal.returns
returns c = c.len.ensures ∙ sym (moved-length c.args.self.now.operator.now.bounds c.args.self.now.first)
