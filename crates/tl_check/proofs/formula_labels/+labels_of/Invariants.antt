use Rattle.std.proofs.Common.{◌≡◌, ◌+◌, ◌*◌, drop, length}
use Rattle.tl_check.proofs.InstanceLaws.{Joining}
use Rattle.tl_check.proofs.PartLabels.{PartsSoFar}
use Rattle.tl_check.proofs.Sizes.{size, sizes}
use Rattle.tl_check.specs.Gathered.{IsTuple}
use Rattle.tl_check.specs.Quantifiers.{quantifier_of}
use Rattle.tl_check.specs.StatesAlong.{states_along, course_along}
use Rattle.tl_eval.specs.Frames.{assignment_in, AgreeElsewhere}
use Rattle.tl_syntax.specs.Lists.{Each}
use Rattle.tl_syntax.specs.TreeOfFormula.{tree_of_formula, tree_of_formulas}
use Rattle.tl_check.proofs.formula_labels.+labels_of.Given as goal

abbrev pub decreases-labels_of : goal.decreases-labels_of
decreases-labels_of l = 4 * size (tree_of_formula l.f.now)

abbrev pub decreases-negated_labels : goal.decreases-negated_labels
decreases-negated_labels l = 1 + 4 * size (tree_of_formula l.part.now)

abbrev pub decreases-next_labels : goal.decreases-next_labels
decreases-next_labels l = 2 + 4 * size (tree_of_formula l.part.now)

abbrev pub decreases-later_labels : goal.decreases-later_labels
decreases-later_labels l = 1 + 4 * size (tree_of_formula l.part.now)

abbrev pub decreases-until_labels : goal.decreases-until_labels
decreases-until_labels l = 1 + 4 * (size (tree_of_formula l.first.now) + size (tree_of_formula l.second.now))

abbrev pub decreases-parts_labels : goal.decreases-parts_labels
decreases-parts_labels l = 4 * sizes (tree_of_formulas l.parts.now)

abbrev pub decreases-join_part : goal.decreases-join_part
decreases-join_part l = 1 + 4 * size (tree_of_formula l.part.now.formula.now)

abbrev pub decreases-quantified_labels : goal.decreases-quantified_labels
decreases-quantified_labels l = 2 + 4 * size (tree_of_formula l.binder.now.part.now)

abbrev pub decreases-join_instance : goal.decreases-join_instance
decreases-join_instance l = 1 + 4 * size (tree_of_formula l.instance.now.binder.part.now)

abbrev pub invariant-parts_labels-loop-part : goal.invariant-parts_labels-loop-part
invariant-parts_labels-loop-part l = record {
  frame : l.env ≡ l.fn.env;
  so_far : PartsSoFar (course_along l.along) (assignment_in l.fn.env) (states_along l.along) l.span l.junction l.part-items
      (drop l.part-index l.part-items) l.all;
}

abbrev pub invariant-quantified_labels-loop-tuple : goal.invariant-quantified_labels-loop-tuple
invariant-quantified_labels-loop-tuple l = record {
  counts : Each (IsTuple (length l.binder.vars.now)) l.tuple-items;
  scope : AgreeElsewhere l.binder.vars.now (assignment_in l.env) (assignment_in l.fn.env);
  slots : length l.env ≡ 32;
  so_far : Joining (course_along l.along) (states_along l.along) (assignment_in l.fn.env) (quantifier_of l.binder) l.span l.all
      (drop l.tuple-index l.tuple-items);
}
