-- The places of a function, as the list of their arguments and the list of their values.
use Rattle.std.specs.List.{insert}
use Rattle.std.specs.Prelude.{◌≡◌, ℕ, zero, suc, List, [], ◌∷◌}
use Rattle.tl_syntax.specs.declared.value.Value.{Value}
use Rattle.tl_rows.specs.declared.named.Named.{Named}
use Rattle.tl_rows.specs.declared.table.PlaceRow.{PlaceRow}

-- the places with these arguments and these values
abbrev pub place_rows : List (List Value) → List Value → List PlaceRow
place_rows [] vs = []
place_rows (a ∷ us) [] = []
place_rows (a ∷ us) (v ∷ vs) = record { args = a; value = v } ∷ place_rows us vs

-- the places with another value at place k
abbrev pub place_set : List PlaceRow → ℕ → Value → List PlaceRow
place_set [] k v = []
place_set (r ∷ rs) zero v = record { args = r.args; value = v } ∷ rs
place_set (r ∷ rs) (suc k) v = r ∷ place_set rs k v

-- the places with one more at place k
abbrev pub place_put : List PlaceRow → ℕ → List Value → Value → List PlaceRow
place_put rows k args v = insert rows k (record { args = args; value = v })

-- the table is the one of before with one more at place k
abbrev pub GainsPlaceAt : Named (List PlaceRow) → ℕ → List Value → Value → Named (List PlaceRow) → Type 0
GainsPlaceAt old k args v new = new.rows.value ≡ place_put old.rows.value k args v
