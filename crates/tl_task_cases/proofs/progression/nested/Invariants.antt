use Rattle.std.proofs.Common.{◌<◌, length}
use Rattle.tl_nodes.specs.NodeTrees.{tree_at}
use Rattle.tl_nodes.specs.Numbers.{trees}
use Rattle.tl_progress.specs.Sentences.{IsSentence}
use Rattle.tl_syntax.specs.Signature.{signature_of}
use Rattle.tl_task_cases.proofs.progression.nested.Given as goal

abbrev pub invariant-loop : goal.invariant-loop
invariant-loop l = record {
  number : l.id < length (trees l.nodes);
  sentence : IsSentence (signature_of l.task.problem.domain) (tree_at (trees l.nodes) l.id);
}
