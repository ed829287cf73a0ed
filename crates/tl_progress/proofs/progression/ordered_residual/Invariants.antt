use Rattle.std.proofs.Common.{◌≡◌, false, length}
use Rattle.tl_eval.specs.Remembered.{AreTruths}
use Rattle.tl_nodes.specs.Numbering.{Keeps}
use Rattle.tl_nodes.specs.Numbers.{trees}
use Rattle.tl_syntax.specs.Lists.{Each}
use Rattle.tl_terms.specs.ProblemMeaning.{plain_problem}
use Rattle.tl_progress.specs.Known.{IsRightlyKnown}
use Rattle.tl_progress.specs.Parts.{IsBelow}
use Rattle.tl_progress.proofs.progression.ordered_residual.Given as goal

abbrev pub invariant-loop-at : goal.invariant-loop-at
invariant-loop-at l = record {
  remembers : AreTruths (plain_problem l.here.task.now.problem) l.here.world.now l.memory;
  frame : l.env ≡ l.fn.env;
  kept : Keeps (trees l.fn.nodes) (trees l.nodes);
  order : Each (IsBelow false (trees l.fn.nodes) l.id) l.order.items;
  known : IsRightlyKnown (plain_problem l.here.task.now.problem) l.here.world.now (trees l.nodes) l.known;
}

abbrev pub decreases-loop-at : goal.decreases-loop-at
decreases-loop-at l = length l.order.items
