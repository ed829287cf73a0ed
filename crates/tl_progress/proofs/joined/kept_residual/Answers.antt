use Rattle.std.proofs.Common.{sym}
use Rattle.tl_eval.specs.Frames.{assignment_in}
use Rattle.tl_nodes.specs.Numbers.{trees}
use Rattle.tl_terms.specs.ProblemMeaning.{plain_problem}
use Rattle.tl_progress.specs.KeptResiduals.{found_in}
use Rattle.tl_progress.proofs.KeptByWorld.{still-residuals}
use Rattle.tl_progress.proofs.Learned.{residuals-more}
use Rattle.tl_progress.proofs.ResidualLayers.{residuals-still}
use Rattle.tl_progress.proofs.joined.kept_residual.Goals as goal

pub returns-in-Some-clause-number : goal.returns-in-Some-clause-number
returns-in-Some-clause-number c = (c.requires.found c.args.incoming.formula c.in-Some.number (sym c.in-Some.ensures)).1
    (assignment_in c.args.env.now)

pub returns-in-Ok-keep-clause-found : goal.returns-in-Ok-keep-clause-found
returns-in-Ok-keep-clause-found c =
    residuals-more (plain_problem c.args.here.now.task.now.problem) c.args.here.now.world.now (assignment_in c.args.env.now)
    (trees c.args.nodes.now) c.args.incoming.formula c.requires.there.at c.requires.there.sentence.closed
    (trees c.temporal_residual.new.nodes) c.in-Ok.ensures.kept (found_in c.args.residuals.now c.args.incoming.world)
    (found_in c.keep.new.self c.args.incoming.world) c.in-Ok.number c.in-Ok-keep.ensures.kept c.in-Ok.ensures.number c.requires.found

pub returns-in-Err-keep-clause-found : goal.returns-in-Err-keep-clause-found
returns-in-Err-keep-clause-found c =
    still-residuals (plain_problem c.args.here.now.task.now.problem) c.args.here.now.world.now (trees c.temporal_residual.new.nodes)
    (found_in c.args.residuals.now c.args.incoming.world) (found_in c.keep.new.self c.args.incoming.world) c.in-Err-keep.ensures.refused
    (residuals-still (plain_problem c.args.here.now.task.now.problem) c.args.here.now.world.now (trees c.args.nodes.now)
    (trees c.temporal_residual.new.nodes) c.in-Ok.ensures.kept (found_in c.args.residuals.now c.args.incoming.world) c.requires.found)

pub returns-in-Err-clause-found : goal.returns-in-Err-clause-found
returns-in-Err-clause-found c =
    residuals-still (plain_problem c.args.here.now.task.now.problem) c.args.here.now.world.now (trees c.args.nodes.now)
    (trees c.temporal_residual.new.nodes) c.in-Err.ensures.kept (found_in c.args.residuals.now c.args.incoming.world) c.requires.found
