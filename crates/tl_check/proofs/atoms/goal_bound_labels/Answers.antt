use Rattle.std.proofs.Common.{◌∙◌}
use Rattle.tl_check.proofs.AtomLaws.{goal-marks}
use Rattle.tl_eval.specs.Frames.{assignment_in}
use Rattle.tl_terms.specs.ProblemMeaning.{plain_problem}
use Rattle.tl_check.specs.StatesAlong.{states_along}
use Rattle.tl_check.proofs.atoms.goal_bound_labels.Goals as goal

pub returns-clause-labels : goal.returns-clause-labels
returns-clause-labels c =
    c.in_ok-labels.ensures.same ∙ goal-marks (plain_problem c.args.along.now.task.now.problem)
    (assignment_in c.args.env.now) c.args.bound.now (states_along c.args.along.now) c.args.span c.args.along.now.task.now.first
    c.bound_holds-truth.result c.requires.goal c.requires.span c.bound_holds-truth.ensures
