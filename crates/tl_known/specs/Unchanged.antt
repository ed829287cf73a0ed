-- Facts that changes do not name, and the world that changes make.
use Rattle.std.specs.Prelude.{◌≡◌, ◌<◌, ◌||◌, ℕ, Bool, false, not, List, [], ◌∷◌, ◌++◌, map, length, slice_get, slice_index_or, Some}
use Rattle.std.specs.FinSet as set
use Rattle.std.specs.List.{list_any}
use Rattle.std.specs.Ordering.{eq_by_cmp}
use Rattle.tl_syntax.specs.declared.fact.Fact.{Fact}
use Rattle.tl_syntax.specs.declared.place_value.PlaceValue.{PlaceValue}
use Rattle.tl_syntax.specs.declared.value.Value.{Value}
use Rattle.tl_syntax.specs.Keys.{Key, key_cmp, fact_key}
use Rattle.tl_terms.specs.World.{World, has_fact}
use Rattle.tl_rows.specs.declared.named.Named.{Named}
use Rattle.tl_known.specs.declared.tables_beside.NumberedTables.{NumberedTables}
use Rattle.tl_world.specs.Edits.{changed_facts, changed_places, lists_fact}

-- the fact is not in the world, or is among those that are added
abbrev pub is_gone : World → List Fact → Fact → Bool
is_gone w adds f = not (has_fact w (fact_key f)) || lists_fact adds (fact_key f)

-- the same facts, but for those of a list
abbrev pub AreSameBeside : List Fact → set.FinSet key_cmp → set.FinSet key_cmp → Type 0
AreSameBeside facts s t = (q : Key) → lists_fact facts q ≡ false → set.contains s q ≡ set.contains t q

-- the facts of the table with the number n
abbrev pub row_keys : ℕ → List (List Value) → List Key
row_keys n rows = map (λ a. (n, a)) rows

-- the facts of the tables
abbrev pub table_keys : List (Named (List (List Value))) → List Key
table_keys [] = []
table_keys (t ∷ ts) = row_keys t.name t.rows.value ++ table_keys ts

-- the same facts are in both lists, but for some
abbrev pub AreAlikeBeside : List Fact → List Key → List Key → Type 0
AreAlikeBeside facts xs ys = (q : Key) → lists_fact facts q ≡ false → list_any (eq_by_cmp key_cmp q) xs ≡ list_any (eq_by_cmp key_cmp q) ys

-- the tables with the number n have the same facts, but for those that are deleted or added
abbrev pub AreRowsBeside : List Fact → List Fact → ℕ → List (List Value) → List (List Value) → Type 0
AreRowsBeside dels adds n rows others = AreAlikeBeside (dels ++ adds) (row_keys n rows) (row_keys n others)

-- the tables of two worlds have them so
abbrev pub AreTablesBeside : List Fact → List Fact → List (Named (List (List Value))) → List (Named (List (List Value))) → Type 0
AreTablesBeside dels adds ts us = AreAlikeBeside (dels ++ adds) (table_keys ts) (table_keys us)

-- where tables have one number and one predicate, they have the same facts
abbrev pub TellRows : List (Named (List (List Value))) → List ℕ → List (Named (List (List Value))) → List ℕ → Type 0
TellRows ts ks us ls = (i j k : ℕ) (t u : Named (List (List Value))) → i < length ts → j < length us → t ≡ slice_index_or ts i t → u ≡
    slice_index_or us j u → t.name ≡ u.name → slice_get ks i ≡ Some k → slice_get ls j ≡ Some k →
    AreRowsBeside [] [] t.name t.rows.value u.rows.value

-- and so for tables with their numbers
abbrev pub TellRowsOf : NumberedTables → NumberedTables → Type 0
TellRowsOf ts us = TellRows ts.tables.now ts.numbers.now us.tables.now us.numbers.now

-- they have the same facts, but for those that are deleted or added
abbrev pub AreNumberedBeside : List Fact → List Fact → NumberedTables → NumberedTables → Type 0
AreNumberedBeside dels adds ts us = AreTablesBeside dels adds ts.tables.now us.tables.now

-- the world without some facts, with others, and with the values that are set; of two for one place
-- the earlier counts
abbrev pub changed_world : World → List Fact → List Fact → List PlaceValue → World
changed_world w dels adds sets = record { facts = changed_facts w.facts dels adds; places = changed_places w.places sets }

-- the number is that of the world that the changes make of the world of another number
abbrev pub IsNumberAfter : List World → ℕ → List Fact → List Fact → List PlaceValue → ℕ → Type 0
IsNumberAfter ws from dels adds sets n = (w : World) → slice_get ws from ≡ Some w → slice_get ws n ≡ Some (changed_world w dels adds sets)
