-- Where a formula is read.
use Rattle.std.specs.Prelude.{ℕ, List, Bool}
use Rattle.tl_syntax.specs.declared.value.Value.{Value}
use Rattle.tl_terms.specs.World.{World}

-- whether the definition of that number is true of the values
abbrev pub DefinitionTruths : Type 0
DefinitionTruths = ℕ → List Value → Bool

-- the world, the facts and places of the goal list, its negated facts, and what the definitions say
-- of the world
pub record Situation : Type 0 where
  pub world : World
  pub goal : World
  pub avoid : World
  pub table : DefinitionTruths
