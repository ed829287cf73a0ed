use Rattle.std.proofs.Common.{false, refl, sym, ap₂, ◌∙◌}
use Rattle.tl_terms.specs.Acceptance.{meets_goal}
use Rattle.tl_world.proofs.GoalTests.{by-facts}
use Rattle.tl_world.proofs.task.Task.met_from.Goals as goal

pub returns-in-Some : goal.returns-in-Some
returns-in-Some c =
    let task = c.args.self.now in
    by-facts c.args.w.now task.goal task.avoid false (sym c.in-Some.ensures) refl
    ∙ ap₂ (meets_goal c.args.w.now) task.goal_is task.avoid_is
