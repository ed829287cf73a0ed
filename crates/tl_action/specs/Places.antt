-- Places that are set.
use Rattle.std.specs.Prelude.{List, Bool}
use Rattle.std.specs.List.{list_all}
use Rattle.tl_syntax.specs.declared.place_value.PlaceValue.{PlaceValue}
use Rattle.tl_syntax.specs.Keys.{agree, place_entry}
use Rattle.tl_terms.specs.Acceptance.{is_value}
use Rattle.tl_terms.specs.World.{World, value_at}

-- the world gives the place its value
abbrev pub holds_place : World → PlaceValue → Bool
holds_place w s = is_value (value_at w (s.fun, s.args)) s.value

-- none of the others is the same place with another value
abbrev pub agrees_with_all : List PlaceValue → PlaceValue → Bool
agrees_with_all sets a = list_all (λ b. agree (place_entry a) (place_entry b)) sets
