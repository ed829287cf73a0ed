-- A space is of the same task after no call, and after one call and another.
use Rattle.std.proofs.Common.{◌≡◌, refl, ◌∙◌}
use Rattle.tl_terms.specs.Problem.{PlainProblem}
use Rattle.tl_world.specs.declared.task.Task.{Task}
use Rattle.tl_search.specs.SameTask.{HasSameTask}

module _ {S : Type 0} {task_of : S → Task} {problem_of : S → PlainProblem} where
  pub same-task : {s : S} → HasSameTask task_of problem_of s s
  same-task = record { task = refl; problem = refl }

  -- the later call, and then those before it
  pub same-task-after : {old mid new : S} → HasSameTask task_of problem_of mid new → HasSameTask task_of problem_of old mid →
      HasSameTask task_of problem_of old new
  same-task-after b a = record { task = b.task ∙ a.task; problem = b.problem ∙ a.problem }
