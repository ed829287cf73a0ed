use Rattle.std.proofs.Common.{◌≡◌, true, length, nat_eq}
use Rattle.indexmap.specs.IndexMap.{get}
use Rattle.tl_eval.specs.Remembered as Remembered
use Rattle.tl_nodes.specs.Numbers.{trees}
use Rattle.tl_syntax.specs.Lists.{Each}
use Rattle.tl_terms.specs.ProblemMeaning.{plain_problem}
use Rattle.tl_progress.specs.Known.{AreTruths}
use Rattle.tl_progress.specs.Parts.{IsBelow}
use Rattle.tl_progress.proofs.idling.sentence_truth.Given as goal

abbrev pub invariant-loop-at : goal.invariant-loop-at
invariant-loop-at l = record {
  remembers : Remembered.AreTruths (plain_problem l.formulas.here.now.task.now.problem) l.formulas.here.now.world.now l.memory;
  frame : l.env ≡ l.fn.env;
  order : Each (IsBelow true (trees l.formulas.nodes.now) l.id) l.order.items;
  known : AreTruths (plain_problem l.formulas.here.now.task.now.problem) l.formulas.here.now.world.now (trees l.formulas.nodes.now)
      (get nat_eq l.known.truths);
}

abbrev pub decreases-loop-at : goal.decreases-loop-at
decreases-loop-at l = length l.order.items
