-- The fields of a world as plain tables.
use Rattle.std.specs.Prelude.{ℕ, List, [], ◌∷◌, ◌++◌, map}
use Rattle.std.specs.FinMap as dict
use Rattle.std.specs.FinSet as set
use Rattle.tl_syntax.specs.declared.value.Value.{Value}
use Rattle.tl_syntax.specs.Keys.{key_cmp}
use Rattle.tl_rows.specs.declared.named.Named.{Named}
use Rattle.tl_rows.specs.declared.table.PlaceRow.{PlaceRow}
pub use Rattle.tl_rows.specs.Plain.{row_cmp, PlainRows, PlainTables, keyed, entries_of, AreRows, EachInOrder, InOrder, set_of, map_of}

-- a fact by its arguments
abbrev pub fact_row : List Value → List Value × Unit {0}
fact_row r = (r, tt)

-- a place by its arguments, with its value
abbrev pub place_row : PlaceRow → List Value × Value
place_row r = (r.args, r.value)

-- the arguments of the place and then its value
abbrev pub whole_row : PlaceRow → List Value
whole_row r = r.args ++ r.value ∷ []

-- the facts of one predicate
abbrev pub fact_table : Named (List (List Value)) → ℕ × PlainRows (Unit {0})
fact_table t = (t.name, map fact_row t.rows.value)

-- the places of one function
abbrev pub place_table : Named (List PlaceRow) → ℕ × PlainRows Value
place_table t = (t.name, map place_row t.rows.value)

-- the facts of a world, predicate by predicate
abbrev pub fact_tables : List (Named (List (List Value))) → PlainTables (Unit {0})
fact_tables = map fact_table

-- the places of a world, function by function
abbrev pub place_tables : List (Named (List PlaceRow)) → PlainTables Value
place_tables = map place_table

-- the facts of a world as a set
abbrev pub facts_of : List (Named (List (List Value))) → set.FinSet key_cmp
facts_of ts = set_of (fact_tables ts)

-- the places of a world with their values as a map
abbrev pub places_of : List (Named (List PlaceRow)) → dict.FinMap key_cmp Value
places_of ts = map_of (place_tables ts)

-- a table by its number and its rows
abbrev pub plain_of : {R : Type 0} → Named R → ℕ × R
plain_of t = (t.name, t.rows.value)
