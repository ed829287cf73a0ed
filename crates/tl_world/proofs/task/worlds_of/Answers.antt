use Rattle.std.proofs.Common.{[], ap₂, ap, ◌∙◌}
use Rattle.tl_terms.specs.ProblemMeaning.{world_of, plain_problem}
use Rattle.tl_world.proofs.task.worlds_of.Goals as goal

pub returns-clause-first : goal.returns-clause-first
unfolding plain_problem
returns-clause-first c = c.in_ok-first.ensures.same ∙ ap₂ world_of c.as_slice.ensures c.as_slice-2.ensures

pub returns-clause-goal : goal.returns-clause-goal
unfolding plain_problem
returns-clause-goal c = c.in_ok-goal.ensures.same ∙ ap₂ world_of c.as_slice-3.ensures c.as_slice-4.ensures

pub returns-clause-avoid : goal.returns-clause-avoid
unfolding plain_problem
returns-clause-avoid c = c.in_ok-avoid.ensures.same ∙ ap (λ fs. world_of fs []) c.as_slice-5.ensures
