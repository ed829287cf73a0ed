-- Places with their values by falling places.
use Rattle.std.specs.Prelude.{Bool}
use Rattle.std.specs.Ordering.{is_lt}
use Rattle.tl_syntax.specs.declared.place_value.PlaceValue.{PlaceValue}
use Rattle.tl_syntax.specs.Keys.{key_cmp, place_entry}

-- the place of the first comes after that of the second
abbrev pub is_above : PlaceValue → PlaceValue → Bool
is_above a b = is_lt (key_cmp (place_entry b).0 (place_entry a).0)
