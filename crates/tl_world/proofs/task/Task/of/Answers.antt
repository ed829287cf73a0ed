use Rattle.std.proofs.Common.{length, sym, subst}
use Rattle.tl_terms.specs.NamedWorlds.{WorldIsNamed}
use Rattle.tl_world.proofs.task.Task.of.Goals as goal
use Rattle.tl_terms.proofs.NamedWorlds.{first-named, goal-named, avoid-named}

pub invariant_of-result : goal.invariant_of-result
invariant_of-result c = record {
  first_is = c.in-Ok.ensures.first;
  goal_is = c.in-Ok.ensures.goal;
  avoid_is = c.in-Ok.ensures.avoid;
  first_named = subst (WorldIsNamed (length c.args.problem.names)) (sym c.in-Ok.ensures.first) (first-named c.args.problem);
  goal_named = subst (WorldIsNamed (length c.args.problem.names)) (sym c.in-Ok.ensures.goal) (goal-named c.args.problem);
  avoid_named = subst (WorldIsNamed (length c.args.problem.names)) (sym c.in-Ok.ensures.avoid) (avoid-named c.args.problem);
}
