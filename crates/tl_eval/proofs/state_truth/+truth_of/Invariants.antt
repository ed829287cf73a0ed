use Rattle.std.proofs.Common.{◌≡◌, ◌+◌, drop, take, length}
use Rattle.tl_eval.specs.Frames.{assignment_in, AgreeElsewhere}
use Rattle.tl_eval.specs.BoundTuples.{ReadsBound}
use Rattle.tl_eval.specs.Remembered.{AreTruths}
use Rattle.tl_eval.proofs.FormulaSizes.{formula_nodes, formulas_nodes, weight}
use Rattle.tl_eval.proofs.StateLaws.{PartsPassed, TuplesPassed, tuples_read}
use Rattle.tl_eval.proofs.TupleRest.{rest_after}
use Rattle.tl_syntax.specs.TreeOfFormula.{tree_of_formula, tree_of_formulas}
use Rattle.tl_terms.specs.Definitions.{situation_of}
use Rattle.tl_terms.specs.ProblemMeaning.{plain_problem}
use Rattle.tl_eval.proofs.state_truth.+truth_of.Given as goal

abbrev pub decreases-truth_of : goal.decreases-truth_of
decreases-truth_of l = weight (plain_problem l.here.now.task.now.problem) l.here.now.reading.number l.here.now.reading.level
    (formula_nodes (tree_of_formula l.f.now))

abbrev pub decreases-parts_true : goal.decreases-parts_true
decreases-parts_true l = weight (plain_problem l.here.now.task.now.problem) l.here.now.reading.number l.here.now.reading.level
    (formulas_nodes (tree_of_formulas l.parts.now))

abbrev pub decreases-defined_true : goal.decreases-defined_true
decreases-defined_true l = weight (plain_problem l.here.now.task.now.problem) l.here.now.reading.number l.here.now.reading.level 2

abbrev pub decreases-body_true : goal.decreases-body_true
decreases-body_true l = weight (plain_problem l.here.now.task.now.problem) l.here.now.reading.number l.here.now.reading.level 1

abbrev pub decreases-opened_true : goal.decreases-opened_true
decreases-opened_true l = weight (plain_problem l.here.now.task.now.problem) l.reading.number l.reading.level 0

abbrev pub invariant-parts_true-loop-part : goal.invariant-parts_true-loop-part
invariant-parts_true-loop-part l = record {
  frame : take 32 l.frames ≡ take 32 l.fn.frames;
  truths : AreTruths (plain_problem l.here.task.now.problem) l.here.world.now l.memory;
  passed : PartsPassed (plain_problem l.here.task.now.problem) l.here.world.now l.here.reading.number l.here.reading.level
      (assignment_in (take 32 l.fn.frames)) l.stop l.part-items (drop l.part-index l.part-items);
}

abbrev pub decreases-quantified_true : goal.decreases-quantified_true
decreases-quantified_true l = weight (plain_problem l.here.now.task.now.problem) l.here.now.reading.number l.here.now.reading.level
    (2 + formula_nodes (tree_of_formula l.quantified.now.part.now))

abbrev pub decreases-tuples_true : goal.decreases-tuples_true
decreases-tuples_true l = weight (plain_problem l.here.now.task.now.problem) l.here.now.reading.number l.here.now.reading.level
    (1 + formula_nodes (tree_of_formula l.quantified.now.part.now))

abbrev pub decreases-tuples_true-tuples : goal.decreases-tuples_true-tuples
decreases-tuples_true-tuples l = length (rest_after l.tuples.tuple (tuples_read
    (plain_problem l.here.task.now.problem) l.here.world.now l.here.reading.number l.here.reading.level
    (assignment_in (take 32 l.fn.frames)) l.quantified.vars.now l.quantified.bound.now (tree_of_formula l.quantified.part.now)))

abbrev pub invariant-tuples_true-tuples : goal.invariant-tuples_true-tuples
invariant-tuples_true-tuples l = record {
  reads : ReadsBound (situation_of (plain_problem l.here.task.now.problem) l.here.world.now) l.quantified.vars.now
      (assignment_in (take 32 l.fn.frames)) l.quantified.bound.now l.tuples;
  scope : AgreeElsewhere l.quantified.vars.now (assignment_in (take 32 l.frames)) (assignment_in (take 32 l.fn.frames));
  truths : AreTruths (plain_problem l.here.task.now.problem) l.here.world.now l.memory;
  passed : TuplesPassed (plain_problem l.here.task.now.problem) l.here.world.now l.here.reading.number l.here.reading.level
      (assignment_in (take 32 l.fn.frames)) l.quantified.vars.now l.quantified.bound.now
      (tree_of_formula l.quantified.part.now) l.stop l.tuples.tuple;
}
