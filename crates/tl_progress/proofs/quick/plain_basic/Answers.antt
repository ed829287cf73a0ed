use Rattle.tl_eval.specs.Frames.{assignment_in}
use Rattle.tl_nodes.specs.Numbers.{trees}
use Rattle.tl_terms.specs.ProblemMeaning.{plain_problem}
use Rattle.tl_progress.proofs.TruthLayers.{idle-Basic}
use Rattle.tl_progress.proofs.QuickTruths.{plain-in}
use Rattle.tl_progress.proofs.quick.plain_basic.Goals as goal

pub returns-in-Basic : goal.returns-in-Basic
returns-in-Basic c =
    plain-in (plain_problem c.args.formulas.now.here.now.task.now.problem) c.args.formulas.now.here.now.world.now
    (assignment_in c.args.env.now) (trees c.args.formulas.now.nodes.now) c.args.at _ c.plain_state.result
    (idle-Basic (trees c.args.formulas.now.nodes.now) c.args.at c.get.result.now c.get.ensures.tree
    (plain_problem c.args.formulas.now.here.now.task.now.problem) c.args.formulas.now.here.now.world.now
    (assignment_in c.args.env.now) c.get.ensures.parts c.in-Basic.f c.in-Basic.is) c.plain_state.ensures
