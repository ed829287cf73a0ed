use Rattle.tl_terms.proofs.GoalLaws.{goal-by-membership}
use Rattle.tl_terms.proofs.laws.goal.goal_test_is_by_membership.Goals as goal

pub returns : goal.returns
returns c = goal-by-membership
