use Rattle.std.proofs.Common.{sym, subst}
use Rattle.tl_check.proofs.AtomLaws.{fact-guides, goal-guides, history-known}
use Rattle.tl_check.specs.Facts.{Guides, IsOverGoal}
use Rattle.tl_syntax.specs.declared.bound.Bound.{Bound}
use Rattle.tl_terms.specs.ProblemMeaning.{plain_problem}
use Rattle.tl_check.specs.StatesAlong.{states_along}
use Rattle.tl_check.proofs.atoms.guide_of.Goals as goal

pub returns-in-Some : goal.returns-in-Some
returns-in-Some c =
    let p = plain_problem c.args.along.now.task.now.problem in
    let h = c.in-Some.history.now in
    subst (λ (b : Bound). Guides p (states_along c.args.along.now) b h.ever) (sym c.in-Fact.is)
    (fact-guides p (states_along c.args.along.now) c.in-Fact.pred c.in-Fact.field-1 h
    (history-known c.args.along.now h c.requires c.in-Some.ensures.1) c.in-Some.ensures.0)

pub returns-in-GoalFact : goal.returns-in-GoalFact
returns-in-GoalFact c = goal-guides (plain_problem c.args.along.now.task.now.problem)
    (states_along c.args.along.now) c.args.bound.now c.args.along.now.task.now.first (subst IsOverGoal (sym c.in-GoalFact.is) tt)

pub returns-in-GoalPlace : goal.returns-in-GoalPlace
returns-in-GoalPlace c = goal-guides (plain_problem c.args.along.now.task.now.problem)
    (states_along c.args.along.now) c.args.bound.now c.args.along.now.task.now.first (subst IsOverGoal (sym c.in-GoalPlace.is) tt)

pub returns-in-GoalNot : goal.returns-in-GoalNot
returns-in-GoalNot c = goal-guides (plain_problem c.args.along.now.task.now.problem)
    (states_along c.args.along.now) c.args.bound.now c.args.along.now.task.now.first (subst IsOverGoal (sym c.in-GoalNot.is) tt)
