use Rattle.std.proofs.Common.{List, [], nat_eq, subst}
use Rattle.indexmap.specs.IndexMap.{get}
use Rattle.tl_eval.specs.Frames.{assignment_in}
use Rattle.tl_nodes.specs.NodeTrees.{tree_at}
use Rattle.tl_nodes.specs.Numbers.{trees}
use Rattle.tl_terms.specs.Operations.{Operation}
use Rattle.tl_terms.specs.ProblemMeaning.{plain_problem}
use Rattle.tl_eval.specs.Faults.{IsCausedBy}
use Rattle.tl_progress.proofs.Learned.{truths-more, residuals-more}
use Rattle.tl_progress.proofs.ResidualLayers.{truths-still}
use Rattle.tl_progress.proofs.StateFormulas.{looked-same}
use Rattle.tl_progress.proofs.progression.work_out.Goals as goal

pub residual_of-requires-clause-fits : goal.residual_of-requires-clause-fits
residual_of-requires-clause-fits c = record { around = []; fits = c.requires.there.sentence.fits }

pub truth_of-requires-clause-readable : goal.truth_of-requires-clause-readable
truth_of-requires-clause-readable c = record {
  at = c.requires.there.at;
  fits =
      record { around = []; fits = c.requires.there.sentence.fits };
  known = c.requires.known.truths;
}

pub residual_of-requires-clause-known : goal.residual_of-requires-clause-known
residual_of-requires-clause-known c = record { truths = c.requires.known.truths; residuals = c.requires.known.residuals }

pub returns-in_ok-insert-in-Ok-clause-known : goal.returns-in_ok-insert-in-Ok-clause-known
returns-in_ok-insert-in-Ok-clause-known c = record {
  truths = truths-still (plain_problem c.args.here.now.task.now.problem) c.args.here.now.world.now (trees c.args.nodes.now)
      (trees c.residual_of.new.nodes) c.in-Ok.ensures.kept (get nat_eq c.args.known.now.truths) c.requires.known.truths;
  residuals = residuals-more (plain_problem c.args.here.now.task.now.problem) c.args.here.now.world.now (assignment_in c.args.env.now)
      (trees c.args.nodes.now) c.args.at c.requires.there.at c.requires.there.sentence.closed
      (trees c.residual_of.new.nodes) c.in-Ok.ensures.kept (get nat_eq c.args.known.now.residuals)
      (get nat_eq c.insert.new.self) c.in-Ok.number c.in_ok-insert-in-Ok.ensures.updates.0 c.in-Ok.ensures.number
      c.requires.known.residuals;
}

pub returns-in_ok-insert-in-Ok-truth_of-clause-known : goal.returns-in_ok-insert-in-Ok-truth_of-clause-known
returns-in_ok-insert-in-Ok-truth_of-clause-known c = record {
  truths = truths-more (plain_problem c.args.here.now.task.now.problem) c.args.here.now.world.now (assignment_in c.args.env.now)
      (trees c.args.nodes.now) c.args.at c.requires.there.at c.requires.there.sentence.closed (get nat_eq c.args.known.now.truths)
      (get nat_eq c.insert-in-Ok-truth_of.new.self) c.in-Ok-truth_of.truth c.in_ok-insert-in-Ok-truth_of.ensures.updates.0
      c.in-Ok-truth_of.ensures.truth c.requires.known.truths;
  residuals = c.requires.known.residuals;
}

pub returns-in-Err-truth_of-clause-cause : goal.returns-in-Err-truth_of-clause-cause
returns-in-Err-truth_of-clause-cause c = subst (λ (x : List Operation). IsCausedBy x c.in-Err-truth_of.fault)
    (looked-same (plain_problem c.args.here.now.task.now.problem) c.args.here.now.world.now (assignment_in c.args.env.now)
    (tree_at (trees c.args.nodes.now) c.args.at) (c.temporal.ensures.state.0 c.if-temporal.false)) c.in-Err-truth_of.ensures.cause
