-- What a lister has of the operators of a task.
use Rattle.std.specs.Prelude.{◌≡◌, map}
use Rattle.tl_action.specs.declared.all_actions.Lister.{Lister}
use Rattle.tl_action.specs.OwnOrders.{own_order}
use Rattle.tl_world.specs.declared.task.Task.{Task}

-- the lister has what is worked out of the operators of the task
abbrev pub ListsFor : Task → Lister → Type 0
ListsFor task lister = lister.orders.items ≡ map own_order task.problem.domain.operators
