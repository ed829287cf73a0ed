-- The codes of rows and of tables, for hashed sets of worlds.
use Rattle.std.specs.Prelude.{ℕ, ◌%◌, ◌^◌, List, ◌++◌, Bool, map}
use Rattle.std.specs.Hash as fed
use Rattle.std.specs.Hash.{HashWrites}
use Rattle.std.specs.Hash.FoldHasher as folding
use Rattle.std.specs.List.{fold, sum_by}
use lib.Pointwise.{pointwise}
use Rattle.tl_syntax.specs.declared.value.Value.{Value}
use Rattle.tl_syntax.specs.contracts.value.ValueHash.TheImpl as value_hash_impl
use Rattle.tl_syntax.specs.DerivedTests.{value_eq}
use Rattle.tl_rows.specs.declared.table.PlaceRow.{PlaceRow}
use Rattle.tl_rows.specs.Plain.{PlainRows, PlainTables}

-- the same values in the same order
abbrev pub values_eq : List Value → List Value → Bool
values_eq = pointwise value_eq

-- what a list of values feeds a hasher
abbrev pub values_fed : List Value → HashWrites
values_fed = fed.slice (value_hash_impl.ghosts).hash_input

-- what comes of a hasher that is fed so
abbrev pub code_of_writes : HashWrites → ℕ
code_of_writes writes = folding.finish (fold folding.write folding.initial writes)

-- the code of a row
unfoldable pub row_code : List Value → ℕ
row_code row = code_of_writes (values_fed row)

-- the code of rows: the sum of their codes, whatever their order
abbrev pub rows_code : List (List Value) → ℕ
rows_code rows = sum_by row_code rows % 2 ^ 64

-- what a table of facts feeds a hasher: its number and its code
abbrev pub fact_table_fed : ℕ × PlainRows (Unit {0}) → HashWrites
fact_table_fed t = fed.u32 t.0 ++ fed.u64 (rows_code (map (λ (r : List Value × Unit {0}). r.0) t.1))

-- the code of a place with its value
unfoldable pub place_code : PlaceRow → ℕ
place_code row = code_of_writes (values_fed row.args ++ (value_hash_impl.ghosts).hash_input row.value)

-- the code of places with their values: the sum of their codes, whatever their order
abbrev pub places_code : List PlaceRow → ℕ
places_code rows = sum_by place_code rows % 2 ^ 64

-- a place by its arguments, with its value
abbrev pub row_of : List Value × Value → PlaceRow
row_of r = record { args = r.0; value = r.1 }

-- what a table of places feeds a hasher: its number and its code
abbrev pub place_table_fed : ℕ × PlainRows Value → HashWrites
place_table_fed t = fed.u32 t.0 ++ fed.u64 (places_code (map row_of t.1))

-- the code of the tables of facts and of those of places
unfoldable pub tables_code : PlainTables (Unit {0}) → PlainTables Value → ℕ
tables_code facts places = code_of_writes (fed.slice fact_table_fed facts ++ fed.slice place_table_fed places)
