use Rattle.std.proofs.Common.{ap, sym, ◌∙◌}
use Rattle.tl_eval.specs.PatternOf.{world_read}
use Rattle.tl_terms.specs.Definitions.{situation_of}
use Rattle.tl_terms.specs.ProblemMeaning.{plain_problem}
use Rattle.tl_eval.proofs.tuples.world_of_bound.Goals as goal

pub returns-in-Fact : goal.returns-in-Fact
unfolding situation_of
returns-in-Fact c = ap (world_read (situation_of (plain_problem c.args.task.now.problem) c.args.w.now)) (sym c.in-Fact.is)

pub returns-in-Place : goal.returns-in-Place
unfolding situation_of
returns-in-Place c = ap (world_read (situation_of (plain_problem c.args.task.now.problem) c.args.w.now)) (sym c.in-Place.is)

pub returns-in-GoalFact : goal.returns-in-GoalFact
unfolding situation_of
returns-in-GoalFact c = let task = c.args.task.now in task.goal_is ∙ ap
    (world_read (situation_of (plain_problem task.problem) c.args.w.now)) (sym c.in-GoalFact.is)

pub returns-in-GoalPlace : goal.returns-in-GoalPlace
unfolding situation_of
returns-in-GoalPlace c = let task = c.args.task.now in task.goal_is ∙ ap
    (world_read (situation_of (plain_problem task.problem) c.args.w.now)) (sym c.in-GoalPlace.is)

pub returns-in-GoalNot : goal.returns-in-GoalNot
unfolding situation_of
returns-in-GoalNot c = let task = c.args.task.now in task.avoid_is ∙ ap
    (world_read (situation_of (plain_problem task.problem) c.args.w.now)) (sym c.in-GoalNot.is)
