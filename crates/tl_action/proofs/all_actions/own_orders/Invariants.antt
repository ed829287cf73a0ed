use Rattle.std.proofs.Common.{◌≡◌, map, take}
use Rattle.tl_action.specs.OwnOrders.{own_order}
use Rattle.tl_action.proofs.all_actions.own_orders.Given as goal

abbrev pub invariant-loop-operator : goal.invariant-loop-operator
invariant-loop-operator l = l.orders.items ≡ map own_order (take l.operator-index l.operators)
