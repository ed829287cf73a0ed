use Rattle.std.proofs.Common.{refl}
use Rattle.tl_action.proofs.OwnOrders.{own-is}
use Rattle.tl_action.proofs.own_order.OwnOrder.take_back.Goals as goal

pub returns : goal.returns
returns c =
    let order = c.args.order in
    own-is order.bounds order.bounds.operator.now order.new_parameters.items order.sure refl c.requires order.new_parameters_are
    order.sure_is
