use Rattle.std.specs.List.{sum_by}
use Rattle.tl_nodes.specs.Joins.{breadth}
use Rattle.tl_nodes.specs.NodeTrees.{tree_at}
use Rattle.tl_nodes.specs.Numbers.{trees}
use Rattle.tl_nodes.proofs.JoinWalk.{Walk}
use Rattle.tl_nodes.proofs.nodes.Nodes.flatten.Given as goal

abbrev pub invariant-loop-id : goal.invariant-loop-id
invariant-loop-id l = Walk (trees l.self) l.junction l.parts l.todo.items l.opened.keys l.flat.items

abbrev pub decreases-loop-id : goal.decreases-loop-id
decreases-loop-id l = sum_by (λ i. breadth (tree_at (trees l.self) i)) l.todo.items
