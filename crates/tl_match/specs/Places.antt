-- The places of a function that a pattern fits.
use Rattle.std.specs.Prelude.{◌≡◌, ◌-◌, ◌++◌, ℕ, List, [], ◌∷◌, Bool, true, map, take, drop, slice_index_or}
use Rattle.std.specs.declared.cmp.Ordering.TheVariants.{Greater}
use Rattle.tl_syntax.specs.declared.value.Value.{Value}
use Rattle.tl_syntax.specs.Lists.{Each}
use Rattle.tl_match.specs.declared.pattern.Part.{Part}
use Rattle.tl_rows.specs.declared.table.PlaceRow.{PlaceRow}
use Rattle.tl_match.specs.Fits.{fits_all}
use Rattle.tl_match.specs.Front.{front_cmp}
use Rattle.tl_rows.specs.Tables.{whole_row}

-- the arguments of the first i places all come before the front
abbrev pub ArePlacesPassed : List Value → List PlaceRow → ℕ → Type 0
ArePlacesPassed f rows i = Each (λ r. front_cmp f r.args ≡ Greater) (take i rows)

-- whether the leading parts and the last one are the place's arguments and its value under the
-- tuple's values
abbrev pub fits_place : List Part → Part → PlaceRow → List Value → Bool
fits_place lead last r t = fits_all (lead ++ last ∷ []) (whole_row r) t

-- the parts are the place before `at` under the tuple's values
abbrev pub FitsPlaceBefore : List Part → List PlaceRow → ℕ → List Value → Type 0
FitsPlaceBefore ps rows at t = (r : PlaceRow) → fits_all ps (whole_row (slice_index_or rows (at - 1) r)) t ≡ true

-- the places from `from` on, each as its arguments and then its value
abbrev pub whole_from : ℕ → List PlaceRow → List (List Value)
whole_from from rows = drop from (map whole_row rows)
