use Rattle.tl_terms.proofs.OrderLaws.{prefix-first}
use Rattle.tl_terms.proofs.laws.orders.prefix_comes_before.Goals as goal

pub returns : goal.returns
returns c = prefix-first
