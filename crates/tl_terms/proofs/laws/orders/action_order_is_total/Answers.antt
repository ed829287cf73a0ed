use Rattle.tl_terms.proofs.OrderLaws.{actions-total}
use Rattle.tl_terms.proofs.laws.orders.action_order_is_total.Goals as goal

pub returns : goal.returns
returns c = actions-total
