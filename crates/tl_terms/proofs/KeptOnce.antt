-- That worlds are named has at most one proof.
use Rattle.std.specs.Prelude.{ℕ, List}
use Rattle.tl_syntax.specs.KeptOnce.{Each-prop, named_value-prop, values-prop}
use Rattle.tl_syntax.specs.Lists.{Each}
use Rattle.tl_terms.specs.NamedWorlds.{WorldIsNamed}
use Rattle.tl_terms.specs.World.{World}

pub world_named-prop : (n : ℕ) (w : World) → IsProp (WorldIsNamed n w)
world_named-prop n w = hlevel (values-prop n, named_value-prop n)

pub worlds_named-prop : (n : ℕ) (ws : List World) → IsProp (Each (WorldIsNamed n) ws)
worlds_named-prop n ws = Each-prop (WorldIsNamed n) (world_named-prop n) ws
