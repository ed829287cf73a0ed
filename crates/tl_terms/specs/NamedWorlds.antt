-- Which worlds name only numbers of a table of names.
use Rattle.std.specs.Prelude.{◌≡◌, ℕ, Some, IsTrue}
use Rattle.tl_syntax.specs.declared.value.Value.{Value}
use Rattle.tl_syntax.specs.Keys.{Key}
use Rattle.tl_syntax.specs.Lists.{Each}
use Rattle.tl_syntax.specs.Named.{ValueIsNamed}
use Rattle.tl_terms.specs.World.{World, has_fact, value_at}

-- all values of facts and of places are named
pub record WorldIsNamed (n : ℕ) (w : World) : Type 0 where
  pub facts : (k : Key) → IsTrue (has_fact w k) → Each (ValueIsNamed n) k.1
  pub places : (k : Key) (v : Value) → value_at w k ≡ Some v → Each (ValueIsNamed n) k.1 × ValueIsNamed n v
