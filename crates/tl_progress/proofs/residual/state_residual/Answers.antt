use Rattle.std.proofs.Common.{Some, List, ap, ◌∙◌, subst}
use Rattle.tl_eval.specs.Frames.{assignment_in}
use Rattle.tl_nodes.specs.NodeTrees.{tree_at}
use Rattle.tl_nodes.specs.Numbers.{trees}
use Rattle.tl_syntax.specs.Trees.{FormulaTree}
use Rattle.tl_terms.specs.Operations.{Operation}
use Rattle.tl_terms.specs.ProblemMeaning.{plain_problem}
use Rattle.tl_eval.specs.Faults.{IsCausedBy}
use Rattle.tl_progress.proofs.StateFormulas.{constant-next, looked-same}
use Rattle.tl_progress.proofs.residual.state_residual.Goals as goal

pub returns-in-Ok-clause-number : goal.returns-in-Ok-clause-number
returns-in-Ok-clause-number c =
    c.constant_number.ensures.number ∙ ap (λ (f : FormulaTree). Some f)
    (constant-next (plain_problem c.args.here.now.task.now.problem) c.args.here.now.world.now (assignment_in c.args.env.now)
    (tree_at (trees c.args.nodes.now) c.args.at) c.in-Ok.truth c.requires.state c.in-Ok.ensures.truth)

pub returns-in-Err-clause-cause : goal.returns-in-Err-clause-cause
returns-in-Err-clause-cause c =
    subst (λ (x : List Operation). IsCausedBy x c.in-Err.fault) (looked-same
    (plain_problem c.args.here.now.task.now.problem) c.args.here.now.world.now (assignment_in c.args.env.now)
    (tree_at (trees c.args.nodes.now) c.args.at) c.requires.state) c.in-Err.ensures.cause

pub part_truth-requires-clause-readable : goal.part_truth-requires-clause-readable
part_truth-requires-clause-readable c = record { at = c.requires.at; fits = c.requires.fits; known = c.requires.known }
