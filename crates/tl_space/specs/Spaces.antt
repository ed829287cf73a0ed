-- What a caller sees of a space.
use Rattle.std.specs.Prelude.{◌≡◌, ℕ, List, map, length}
use Rattle.tl_terms.specs.Problem.{PlainProblem}
use Rattle.tl_terms.specs.ProblemMeaning.{plain_problem}
use Rattle.tl_world.specs.declared.task.Task.{Task}
use Rattle.tl_nodes.specs.Numbers.{trees}
use Rattle.tl_search.specs.KeptPairs.{KeptPair}
use Rattle.tl_space.specs.declared.space.Space.{Space}
use Rattle.tl_space.specs.Kept.{kept_over, paths_of}
use Rattle.tl_known.specs.NumberedLists.{Stay}
use Rattle.tl_known.specs.WorldNumbers.{worlds_in}

-- the task
abbrev pub task_of : Space → Task
task_of s = s.task

-- the problem
abbrev pub problem_of : Space → PlainProblem
problem_of s = plain_problem s.task.problem

-- how many names the problem has
abbrev pub name_count : Space → ℕ
name_count s = length s.task.problem.names

-- the pairs that are kept, each with its path, by their numbers
abbrev pub kept_of : Space → List KeptPair
kept_of s = kept_over (worlds_in s.worlds) (trees s.nodes) s.pairs.keys (paths_of s.from)

-- the numbers of the residuals of the kept pairs
abbrev pub labels_of : Space → List ℕ
labels_of s = map (λ n. n.label) s.pairs.keys

-- the task stays, and each kept pair has its number, its world, its path and its label still, and
-- each label its tree
pub record Grows (old new : Space) : Type 0 where
  pub task : task_of new ≡ task_of old
  pub kept : Stay (kept_of old) (kept_of new)
  pub labels : Stay (labels_of old) (labels_of new)
  pub trees : Stay (trees old.nodes) (trees new.nodes)
