use Rattle.tl_action.proofs.order.JoinOrder.of.Goals as goal

pub invariant_of-result : goal.invariant_of-result
invariant_of-result c = record { new_parameters_are = c.in_ok-new_parameters.ensures; sure_is = c.are_sure-sure.ensures }
