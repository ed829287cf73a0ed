use Rattle.tl_check.proofs.SteadyLaws.{steady-True, steady-False, steady-Compare, steady-GoalFact, steady-GoalPlace, steady-GoalNot}
use Rattle.tl_check.proofs.steady.is_steady.Goals as goal

pub returns-in-True : goal.returns-in-True
returns-in-True c = λ _. steady-True c.args.f.now c.in-True.is

pub returns-in-False : goal.returns-in-False
returns-in-False c = λ _. steady-False c.args.f.now c.in-False.is

pub returns-then-is_fixed : goal.returns-then-is_fixed
returns-then-is_fixed c = λ h. steady-Compare c.args.f.now c.in-Compare.field-0 c.in-Compare.x c.in-Compare.y c.in-Compare.is
    (c.is_fixed.ensures c.if-is_fixed.true) (c.is_fixed-then-is_fixed.ensures h)

pub returns-in-GoalFact : goal.returns-in-GoalFact
returns-in-GoalFact c = λ _. steady-GoalFact c.args.f.now c.in-GoalFact.field-0 c.in-GoalFact.field-1 c.in-GoalFact.is

pub returns-in-GoalPlace : goal.returns-in-GoalPlace
returns-in-GoalPlace c = λ _. steady-GoalPlace c.args.f.now c.in-GoalPlace.field-0 c.in-GoalPlace.field-1 c.in-GoalPlace.field-2
    c.in-GoalPlace.is

pub returns-in-GoalNot : goal.returns-in-GoalNot
returns-in-GoalNot c = λ _. steady-GoalNot c.args.f.now c.in-GoalNot.field-0 c.in-GoalNot.field-1 c.in-GoalNot.is
