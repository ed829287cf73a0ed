use Rattle.tl_terms.proofs.OrderLaws.{values-total}
use Rattle.tl_terms.proofs.laws.orders.value_order_is_total.Goals as goal

pub returns : goal.returns
returns c = values-total
