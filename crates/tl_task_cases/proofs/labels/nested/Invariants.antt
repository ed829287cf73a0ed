use Rattle.std.proofs.Common.{◌<◌, length}
use Rattle.tl_nodes.specs.NodeTrees.{tree_at}
use Rattle.tl_nodes.specs.Numbers.{trees}
use Rattle.tl_syntax.specs.Named.{IsNamed}
use Rattle.tl_task_cases.proofs.labels.nested.Given as goal

abbrev pub invariant-loop : goal.invariant-loop
invariant-loop l = record {
  number : l.id < length (trees l.nodes);
  named : IsNamed (length l.problem.names) (tree_at (trees l.nodes) l.id);
}
