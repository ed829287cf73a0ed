-- Entries of a table of places as places with values.
use Rattle.tl_syntax.specs.declared.place_value.PlaceValue.{PlaceValue}
use Rattle.tl_syntax.specs.declared.value.Value.{Value}
use Rattle.tl_problem.specs.declared.place_map.Place.{Place}

-- a place with its value
abbrev pub place_value_of : Place × Value → PlaceValue
place_value_of e = record { fun = e.0.fun; args = e.0.args; value = e.1 }
