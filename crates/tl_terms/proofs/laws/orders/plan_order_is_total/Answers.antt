use Rattle.tl_terms.proofs.OrderLaws.{plans-total}
use Rattle.tl_terms.proofs.laws.orders.plan_order_is_total.Goals as goal

pub returns : goal.returns
returns c = plans-total
