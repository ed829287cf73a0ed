use Rattle.tl_action.proofs.OwnOrders.{own-is}
use Rattle.tl_action.proofs.own_order.OwnOrder.of.Goals as goal

pub returns : goal.returns
returns c =
    let order = c.in_ok-order.order in
    own-is order.bounds c.args.operator.now order.new_parameters.items order.sure c.in_ok-order.ensures.operator c.in_ok-order.ensures.first
    order.new_parameters_are order.sure_is
