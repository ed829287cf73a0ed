-- A space that is of the same task still.
use Rattle.std.specs.Prelude.{◌≡◌}
use Rattle.tl_terms.specs.Problem.{PlainProblem}
use Rattle.tl_world.specs.declared.task.Task.{Task}

-- the space is of the task and of the problem that it was of before
pub record HasSameTask {S : Type 0} (task_of : S → Task) (problem_of : S → PlainProblem) (old new : S) : Type 0 where
  pub task : task_of new ≡ task_of old
  pub problem : problem_of new ≡ problem_of old
