use Rattle.std.proofs.Common.{◌≡◌, false}
use Rattle.tl_eval.specs.Frames.{assignment_in}
use Rattle.tl_eval.specs.Remembered.{AreTruths}
use Rattle.tl_nodes.specs.Numbers.{trees}
use Rattle.tl_syntax.specs.Lists.{Each}
use Rattle.tl_terms.specs.ProblemMeaning.{plain_problem}
use Rattle.tl_progress.specs.Parts.{IsBelow}
use Rattle.tl_progress.proofs.OpenParts.{Passed}
use Rattle.tl_progress.proofs.joined.remembering_open_parts.Given as goal

abbrev pub invariant-loop-i : goal.invariant-loop-i
invariant-loop-i l = record {
  remembers : AreTruths (plain_problem l.formulas.here.now.task.now.problem) l.formulas.here.now.world.now l.memory;
  frame : l.env ≡ l.fn.env;
  below : Each (IsBelow false (trees l.formulas.nodes.now) l.joined.at) l.parts;
  passed : Passed (plain_problem l.formulas.here.now.task.now.problem) l.formulas.here.now.world.now (assignment_in l.fn.env)
      (trees l.formulas.nodes.now) l.joined.at l.joined.junction l.parts l.i;
}
