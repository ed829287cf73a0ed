use Rattle.std.proofs.Common.{◌≡◌, map}
use Rattle.tl_action.specs.OwnOrders.{own_order}
use Rattle.tl_action.proofs.ActionLists.{ActionsSoFar}
use Rattle.tl_terms.specs.ProblemMeaning.{plain_problem}
use Rattle.tl_action.proofs.all_actions.Lister.actions.Given as goal

abbrev pub invariant-loop-op : goal.invariant-loop-op
invariant-loop-op l = ActionsSoFar (plain_problem l.task.problem) l.w l.op l.found ×
    (l.self.orders.items ≡ map own_order l.task.problem.domain.operators)
