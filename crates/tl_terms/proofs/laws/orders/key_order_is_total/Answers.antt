use Rattle.tl_terms.proofs.OrderLaws.{keys-total}
use Rattle.tl_terms.proofs.laws.orders.key_order_is_total.Goals as goal

pub returns : goal.returns
returns c = keys-total
