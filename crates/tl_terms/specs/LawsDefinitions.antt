-- What a defined atom means.
use Rattle.std.specs.Prelude.{◌≡◌, ◌<◌, ℕ, zero, suc, List, cond, ◌==◌, slice_get, Bool, false, Some}
use Rattle.tl_syntax.specs.declared.value.Value.{Value}
use Rattle.tl_terms.specs.Problem.{PlainDefinition, PlainProblem}
use Rattle.tl_terms.specs.World.{World}
use Rattle.tl_terms.specs.Situation.{DefinitionTruths}
use Rattle.tl_syntax.specs.Assignment.{no_values, bind}
use Rattle.tl_terms.specs.Truth.{state_true}
use Rattle.tl_syntax.specs.DefinitionNames.{IsNamingBelow}
use Rattle.tl_terms.specs.Definitions.{situation_of}

-- definition n means this, and every other one what it means elsewhere
abbrev pub own_or_outer : ℕ → (List Value → Bool) → DefinitionTruths → DefinitionTruths
own_or_outer n own outer m vs = cond (m == n) (own vs) (outer m vs)

-- the body of definition n at level k is true of the values; in it an atom of n is the body at
-- level k - 1, and false where k is 1
unfoldable pub body_at_level : PlainProblem → World → ℕ → PlainDefinition → ℕ → List Value → Bool
body_at_level p w n d zero vs = false
body_at_level p w n d (suc k) vs = state_true (record {
  world = w;
  goal = p.goal;
  avoid = p.avoid;
  table =
      own_or_outer n (body_at_level p w n d k) (situation_of p w).table;
}) (bind d.params vs no_values) d.body

-- a definition whose body names no later one is true of the values where its body is, at the level
-- of its number of levels
abbrev pub DefinedIsItsBody : Type 0
DefinedIsItsBody = (p : PlainProblem) (w : World) (n : ℕ) (d : PlainDefinition) (vs : List Value) → slice_get p.definitions n ≡ Some d →
    IsNamingBelow (suc n) d.body → (situation_of p w).table n vs ≡ body_at_level p w n d d.levels vs

-- a definition whose body names only earlier ones is true of the values where its body is
abbrev pub PlainlyDefinedIsItsBody : Type 0
PlainlyDefinedIsItsBody = (p : PlainProblem) (w : World) (n : ℕ) (d : PlainDefinition) (vs : List Value) → slice_get p.definitions n ≡
    Some d → IsNamingBelow n d.body → 0 < d.levels → (situation_of p w).table n vs ≡
    state_true (situation_of p w) (bind d.params vs no_values) d.body
