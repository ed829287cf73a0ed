use Rattle.std.proofs.Common.{◌≡◌, ◌+◌, ◌*◌, map, drop, length}
use Rattle.tl_eval.specs.BoundTuples.{ReadsBound}
use Rattle.tl_eval.specs.Frames.{assignment_in, AgreeElsewhere}
use Rattle.tl_eval.specs.Remembered.{AreTruths}
use Rattle.tl_nodes.specs.NodeTrees.{tree_at}
use Rattle.tl_nodes.specs.Numbering.{Keeps}
use Rattle.tl_nodes.specs.Numbers.{trees}
use Rattle.tl_terms.specs.Definitions.{situation_of}
use Rattle.tl_terms.specs.ProblemMeaning.{plain_problem}
use Rattle.tl_progress.specs.Answers.{residual}
use Rattle.tl_progress.specs.Parts.{join_parts}
use Rattle.tl_progress.specs.Quantifiers.{node_bound, node_vars}
use Rattle.tl_progress.proofs.Instances.{left_after}
use Rattle.tl_progress.proofs.Gathering.{Gathered}
use Rattle.tl_progress.proofs.NextInstances.{next_after, next_of_all}
use Rattle.tl_progress.proofs.residual.+residual_of.Given as goal

abbrev pub decreases-residual_of : goal.decreases-residual_of
decreases-residual_of l = 4 * l.at + 2

abbrev pub decreases-layer_residual : goal.decreases-layer_residual
decreases-layer_residual l = 4 * l.at + 1

abbrev pub decreases-join_residual : goal.decreases-join_residual
decreases-join_residual l = 4 * l.whole.at

abbrev pub decreases-quantifier_residual : goal.decreases-quantifier_residual
decreases-quantifier_residual l = 4 * l.quantifier.part + 4

abbrev pub decreases-instances_residual : goal.decreases-instances_residual
decreases-instances_residual l = 4 * l.quantifier.part + 3

abbrev pub invariant-join_residual-loop-i : goal.invariant-join_residual-loop-i
invariant-join_residual-loop-i l = record {
  remembers : AreTruths (plain_problem l.here.task.now.problem) l.here.world.now l.memory;
  frame : l.env ≡ l.fn.env;
  kept : Keeps (trees l.fn.nodes) (trees l.nodes);
  passed : Gathered l.whole.junction (trees l.nodes) l.answers (map (residual (plain_problem l.here.task.now.problem) l.here.world.now
      (assignment_in l.fn.env)) (drop l.i (join_parts (tree_at (trees l.fn.nodes) l.whole.at))))
      (map (residual (plain_problem l.here.task.now.problem) l.here.world.now (assignment_in l.fn.env))
      (join_parts (tree_at (trees l.fn.nodes) l.whole.at)));
}

abbrev pub decreases-instances_residual-tuples : goal.decreases-instances_residual-tuples
decreases-instances_residual-tuples l = length (left_after (plain_problem l.here.task.now.problem) l.here.world.now (assignment_in l.fn.env)
    (node_vars (trees l.fn.nodes) l.quantifier) (node_bound (trees l.fn.nodes) l.quantifier)
    (tree_at (trees l.fn.nodes) l.quantifier.part) l.tuples.tuple)

abbrev pub invariant-instances_residual-tuples : goal.invariant-instances_residual-tuples
invariant-instances_residual-tuples l = record {
  remembers : AreTruths (plain_problem l.here.task.now.problem) l.here.world.now l.memory;
  kept : Keeps (trees l.fn.nodes) (trees l.nodes);
  reads : ReadsBound (situation_of (plain_problem l.here.task.now.problem) l.here.world.now) (node_vars (trees l.fn.nodes) l.quantifier)
      (assignment_in l.fn.env) (node_bound (trees l.fn.nodes) l.quantifier) l.tuples;
  others : AgreeElsewhere (node_vars (trees l.fn.nodes) l.quantifier) (assignment_in l.env) (assignment_in l.fn.env);
  passed : Gathered l.quantifier.junction (trees l.nodes) l.answers (next_after (plain_problem l.here.task.now.problem) l.here.world.now
      (assignment_in l.fn.env) (node_vars (trees l.fn.nodes) l.quantifier) (node_bound (trees l.fn.nodes) l.quantifier)
      (tree_at (trees l.fn.nodes) l.quantifier.part) l.tuples.tuple)
      (next_of_all (plain_problem l.here.task.now.problem) l.here.world.now (assignment_in l.fn.env)
      (node_vars (trees l.fn.nodes) l.quantifier) (node_bound (trees l.fn.nodes) l.quantifier)
      (tree_at (trees l.fn.nodes) l.quantifier.part));
}
