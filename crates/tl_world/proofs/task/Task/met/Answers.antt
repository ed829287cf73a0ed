use Rattle.std.proofs.Common.{ap₂, ◌∙◌}
use Rattle.tl_terms.specs.Acceptance.{meets_goal}
use Rattle.tl_world.proofs.GoalTests.{by-all, by-values, by-facts}
use Rattle.tl_world.proofs.task.Task.met.Goals as goal

pub returns-then-has_all_values : goal.returns-then-has_all_values
returns-then-has_all_values c =
    let task = c.args.self.now in
    by-all c.args.w.now task.goal task.avoid c.has_all_facts.result c.has_all_values.result c.has_no_fact.result c.has_all_facts.ensures
    c.if-has_all_facts.true c.has_all_values.ensures c.if-has_all_values.true c.has_no_fact.ensures
    ∙ ap₂ (meets_goal c.args.w.now) task.goal_is task.avoid_is

pub returns-else-has_all_values : goal.returns-else-has_all_values
returns-else-has_all_values c =
    let task = c.args.self.now in
    by-values c.args.w.now task.goal task.avoid c.has_all_facts.result c.has_all_values.result c.has_all_facts.ensures
    c.if-has_all_facts.true c.has_all_values.ensures c.if-has_all_values.false
    ∙ ap₂ (meets_goal c.args.w.now) task.goal_is task.avoid_is

pub returns-else-has_all_facts : goal.returns-else-has_all_facts
returns-else-has_all_facts c =
    let task = c.args.self.now in
    by-facts c.args.w.now task.goal task.avoid c.has_all_facts.result c.has_all_facts.ensures c.if-has_all_facts.false
    ∙ ap₂ (meets_goal c.args.w.now) task.goal_is task.avoid_is
