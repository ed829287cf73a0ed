-- What the definitions mean where a formula is read: outside of definitions, or in the body of one.
use Rattle.std.specs.Prelude.{ℕ, ◌+◌, [], ◌∷◌, ◌++◌, fold, take, slice_get, sum_by, Option, Some, None}
use Rattle.tl_terms.specs.Definitions.{Tests, true_at_level, with_tests_of, situation_of, situation_under}
use Rattle.tl_terms.specs.Looked.{Looks, LookedTable, looked_table, looked_at_level, looks_over}
use Rattle.tl_terms.specs.Problem.{PlainDefinition, PlainProblem}
use Rattle.tl_terms.specs.ProblemMeaning.{plain_problem}
use Rattle.tl_terms.specs.Situation.{Situation}
use Rattle.tl_terms.specs.World.{World}
use Rattle.tl_world.specs.declared.task.Task.{Task}

-- a world of the task, with all definitions
abbrev pub situation_in : Task → World → Situation
situation_in task w = situation_of (plain_problem task.problem) w

-- the tests of the first n definitions
abbrev pub tests_before : PlainProblem → World → ℕ → Tests
tests_before p w n = fold (with_tests_of p w) [] (take n p.definitions)

-- what the first n definitions look at
abbrev pub looks_before : PlainProblem → World → ℕ → Looks
looks_before p w n = looks_over p w [] [] (take n p.definitions)

-- the test of definition n at a level, where there is one
abbrev pub own_test : PlainProblem → World → ℕ → ℕ → Option PlainDefinition → Tests
own_test p w n k None = []
own_test p w n k (Some d) = true_at_level p w (tests_before p w n) d k ∷ []

-- what definition n looks at at a level, where there is one
abbrev pub own_look : PlainProblem → World → ℕ → ℕ → Option PlainDefinition → Looks
own_look p w n k None = []
own_look p w n k (Some d) = looked_at_level p w (tests_before p w n) (looks_before p w n) d k ∷ []

-- the tests of the first n definitions and of definition n at level k; all tests where n is the
-- number of definitions
unfoldable pub tests_read : PlainProblem → World → ℕ → ℕ → Tests
tests_read p w n k = tests_before p w n ++ own_test p w n k (slice_get p.definitions n)

-- what these definitions look at
unfoldable pub looks_read : PlainProblem → World → ℕ → ℕ → Looks
looks_read p w n k = looks_before p w n ++ own_look p w n k (slice_get p.definitions n)

-- a world of the problem, with these definitions
abbrev pub situation_read : PlainProblem → World → ℕ → ℕ → Situation
situation_read p w n k = situation_under p w (tests_read p w n k)

-- what these definitions look at, by their numbers
abbrev pub looked_read : PlainProblem → World → ℕ → ℕ → LookedTable
looked_read p w n k = looked_table (looks_read p w n k)

-- how many bodies can be open at once below such a place: the levels of the first n definitions,
-- and k of definition n
unfoldable pub rank : PlainProblem → ℕ → ℕ → ℕ
rank p n k = sum_by (λ d. d.levels) (take n p.definitions) + k
