-- What the defined predicates say of a world.
use Rattle.std.specs.Prelude.{ℕ, zero, suc, List, [], ◌∷◌, ◌++◌, fold, slice_get, Bool, false, Option, Some, None}
use Rattle.tl_syntax.specs.declared.value.Value.{Value}
use Rattle.tl_terms.specs.Problem.{PlainDefinition, PlainProblem}
use Rattle.tl_terms.specs.World.{World}
use Rattle.tl_terms.specs.Situation.{Situation, DefinitionTruths}
use Rattle.tl_syntax.specs.Assignment.{no_values, bind}
use Rattle.tl_terms.specs.Truth.{state_true}

-- a test of values for each definition, by their positions
abbrev pub Tests : Type 0
Tests = List (List Value → Bool)

-- what the test says, where there is one
abbrev pub asked : Option (List Value → Bool) → List Value → Bool
asked (Some test) vs = test vs
asked None vs = false

-- the tests by the numbers of their definitions
abbrev pub table_of : Tests → DefinitionTruths
table_of ts n vs = asked (slice_get ts n) vs

-- a world of the problem, with these tests for its definitions
abbrev pub situation_under : PlainProblem → World → Tests → Situation
situation_under p w ts = record { world = w; goal = p.goal; avoid = p.avoid; table = table_of ts }

-- the body of the definition after the earlier ones, at a level, is true of the values: its own
-- name means the body one level lower, and at level 1 false
unfoldable pub true_at_level : PlainProblem → World → Tests → PlainDefinition → ℕ → List Value → Bool
true_at_level p w earlier d zero vs = false
true_at_level p w earlier d (suc k) vs = state_true (situation_under p w (earlier ++ true_at_level p w earlier d k ∷ []))
    (bind d.params vs no_values) d.body

-- one more definition, at the level of its number of levels
abbrev pub with_tests_of : PlainProblem → World → Tests → PlainDefinition → Tests
with_tests_of p w earlier d = earlier ++ true_at_level p w earlier d d.levels ∷ []

-- the tests of all definitions, each over those before it
unfoldable pub tests_of : PlainProblem → World → Tests
tests_of p w = fold (with_tests_of p w) [] p.definitions

-- a world of the problem
unfoldable pub situation_of : PlainProblem → World → Situation
situation_of p w = situation_under p w (tests_of p w)
