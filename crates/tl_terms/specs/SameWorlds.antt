-- When two worlds are the same.
use Rattle.std.specs.Prelude.{Bool, ◌&&◌}
use Rattle.std.specs.Ordering.{eq_by_cmp}
use lib.Pointwise.{pointwise}
use Rattle.std.specs.FinSet as set
use Rattle.std.specs.FinMap as dict
use Rattle.tl_syntax.specs.declared.value.Value.{Value}
use Rattle.tl_syntax.specs.Keys.{Key, key_cmp, value_cmp}
use Rattle.tl_terms.specs.World.{World}

-- the same place with the same value
abbrev pub entry_eq : Key × Value → Key × Value → Bool
entry_eq a b = eq_by_cmp key_cmp a.0 b.0 && eq_by_cmp value_cmp a.1 b.1

-- the same facts, and the same places with the same values
abbrev pub world_eq : World → World → Bool
world_eq v w = pointwise (eq_by_cmp key_cmp) (set.items v.facts) (set.items w.facts) && pointwise entry_eq (dict.entries v.places)
    (dict.entries w.places)
