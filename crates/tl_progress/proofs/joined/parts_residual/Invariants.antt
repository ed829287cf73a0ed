use Rattle.std.proofs.Common.{◌≡◌, map, drop}
use Rattle.tl_eval.specs.Frames.{assignment_in}
use Rattle.tl_nodes.specs.NodeTrees.{trees_at}
use Rattle.tl_nodes.specs.Numbering.{Keeps}
use Rattle.tl_nodes.specs.Numbers.{trees}
use Rattle.tl_terms.specs.ProblemMeaning.{plain_problem}
use Rattle.tl_progress.specs.Answers.{residual}
use Rattle.tl_progress.specs.KeptResiduals.{found_in, StaysElsewhere}
use Rattle.tl_progress.specs.Known.{AreResiduals}
use Rattle.tl_progress.proofs.Gathering.{Gathered}
use Rattle.tl_progress.proofs.joined.parts_residual.Given as goal

abbrev pub invariant-loop-part : goal.invariant-loop-part
invariant-loop-part l = record {
  frame : l.env ≡ l.fn.env;
  kept : Keeps (trees l.fn.nodes) (trees l.nodes);
  found : AreResiduals (plain_problem l.here.task.now.problem) l.here.world.now (trees l.nodes) (found_in l.residuals l.rest.joined.world);
  elsewhere : StaysElsewhere l.rest.joined.world l.fn.residuals l.residuals;
  passed : Gathered l.rest.joined.junction (trees l.nodes) l.answers (map
      (residual (plain_problem l.here.task.now.problem) l.here.world.now (assignment_in l.fn.env))
      (trees_at (trees l.fn.nodes) (drop l.part-index l.rest.parts.now)))
      (map (residual (plain_problem l.here.task.now.problem) l.here.world.now (assignment_in l.fn.env))
      (trees_at (trees l.fn.nodes) l.rest.parts.now));
}
