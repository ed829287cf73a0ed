use Rattle.std.proofs.Common.{◌≡◌}
use Rattle.tl_eval.specs.Remembered.{AreTruths}
use Rattle.tl_terms.specs.ProblemMeaning.{plain_problem}
use Rattle.tl_progress.proofs.early.early_join.Given as goal

abbrev pub invariant-loop-i : goal.invariant-loop-i
invariant-loop-i l = record {
  frame : l.env ≡ l.fn.env;
  remembers : AreTruths (plain_problem l.formulas.here.now.task.now.problem) l.formulas.here.now.world.now l.memory;
}
