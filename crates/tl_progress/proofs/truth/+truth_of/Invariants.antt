use Rattle.std.proofs.Common.{◌≡◌, ◌+◌, ◌*◌, ℕ, drop, length}
use Rattle.tl_eval.specs.BoundTuples.{ReadsBound}
use Rattle.tl_eval.specs.Frames.{assignment_in, AgreeElsewhere}
use Rattle.tl_eval.specs.Remembered.{AreTruths}
use Rattle.tl_nodes.specs.NodeTrees.{tree_at}
use Rattle.tl_nodes.specs.Numbers.{trees}
use Rattle.tl_terms.specs.Definitions.{situation_of}
use Rattle.tl_terms.specs.ProblemMeaning.{plain_problem}
use Rattle.tl_progress.specs.Answers.{decided, idly_true}
use Rattle.tl_progress.proofs.Instances.{Open, left_after}
use Rattle.tl_progress.proofs.truth.+truth_of.Given as goal

abbrev pub decreases-truth_of : goal.decreases-truth_of
decreases-truth_of l = 5 * l.at + 2

abbrev pub decreases-layer_truth : goal.decreases-layer_truth
decreases-layer_truth l = 5 * l.at + 1

abbrev pub decreases-part_truth : goal.decreases-part_truth
decreases-part_truth l = 5 * l.at + 3

abbrev pub decreases-instance_truth : goal.decreases-instance_truth
decreases-instance_truth l = 5 * l.at + 3

abbrev pub decreases-join_truth : goal.decreases-join_truth
decreases-join_truth l = 5 * l.join.now.at

abbrev pub decreases-quantifier_truth : goal.decreases-quantifier_truth
decreases-quantifier_truth l = 5 * l.quantified.now.part + 5

abbrev pub decreases-instances_truth : goal.decreases-instances_truth
decreases-instances_truth l = 5 * l.quantified.now.part + 4

abbrev pub invariant-join_truth-loop-part : goal.invariant-join_truth-loop-part
invariant-join_truth-loop-part l = record {
  remembers : AreTruths (plain_problem l.formulas.here.now.task.now.problem) l.formulas.here.now.world.now l.memory;
  frame : l.env ≡ l.fn.env;
  passed : decided l.stop (λ (k : ℕ). idly_true (plain_problem l.formulas.here.now.task.now.problem) l.formulas.here.now.world.now
      (assignment_in l.fn.env) (tree_at (trees l.formulas.nodes.now) k)) l.part-items
      ≡ decided l.stop (λ (k : ℕ). idly_true (plain_problem l.formulas.here.now.task.now.problem) l.formulas.here.now.world.now
      (assignment_in l.fn.env) (tree_at (trees l.formulas.nodes.now) k)) (drop l.part-index l.part-items);
}

abbrev pub decreases-instances_truth-tuples : goal.decreases-instances_truth-tuples
decreases-instances_truth-tuples l = length (left_after (plain_problem l.formulas.here.now.task.now.problem) l.formulas.here.now.world.now
    (assignment_in l.fn.env) l.quantified.vars.now l.quantified.bound.now
    (tree_at (trees l.formulas.nodes.now) l.quantified.part) l.tuples.tuple)

abbrev pub invariant-instances_truth-tuples : goal.invariant-instances_truth-tuples
invariant-instances_truth-tuples l = record {
  remembers : AreTruths (plain_problem l.formulas.here.now.task.now.problem) l.formulas.here.now.world.now l.memory;
  reads : ReadsBound (situation_of (plain_problem l.formulas.here.now.task.now.problem) l.formulas.here.now.world.now) l.quantified.vars.now
      (assignment_in l.fn.env) l.quantified.bound.now l.tuples;
  others : AgreeElsewhere l.quantified.vars.now (assignment_in l.env) (assignment_in l.fn.env);
  passed : Open (plain_problem l.formulas.here.now.task.now.problem) l.formulas.here.now.world.now
      (assignment_in l.fn.env) l.quantified.vars.now l.quantified.bound.now
      (tree_at (trees l.formulas.nodes.now) l.quantified.part) l.stop l.tuples.tuple;
}
