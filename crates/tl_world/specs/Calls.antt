-- What the calls of a world say of its rows, of its values, and of what is named in it.
use Rattle.std.specs.Prelude.{◌≡◌, ◌↔◌, ℕ, List, map, Bool, false, not, Some}
use Rattle.std.specs.FinSet as set
use Rattle.std.specs.List.{list_all}
use Rattle.tl_syntax.specs.declared.fact.Fact.{Fact}
use Rattle.tl_syntax.specs.declared.place_value.PlaceValue.{PlaceValue}
use Rattle.tl_syntax.specs.declared.value.Value.{Value}
use Rattle.tl_syntax.specs.Keys.{Key}
use Rattle.tl_syntax.specs.Lists.{Among, Each}
use Rattle.tl_syntax.specs.Named.{FactIsNamed, PlaceIsNamed}
use Rattle.tl_terms.specs.Acceptance.{is_value}
use Rattle.tl_terms.specs.NamedWorlds.{WorldIsNamed}
use Rattle.tl_terms.specs.World.{World, has_fact, value_at}
use Rattle.tl_rows.specs.declared.named.Named.{Named}
use Rattle.tl_rows.specs.declared.table.PlaceRow.{PlaceRow}
use Rattle.tl_rows.specs.Tables.{facts_of, place_row, places_of}

-- the rows are the places of the function with their values in the world
abbrev pub ArePlacesOf : World → ℕ → List PlaceRow → Type 0
ArePlacesOf w f rows = (a : List Value) (v : Value) → Among (a, v) (map place_row rows) ↔ (value_at w (f, a) ≡ Some v)

-- the world of the tables
abbrev pub world_of_tables : List (Named (List (List Value))) → List (Named (List PlaceRow)) → World
world_of_tables facts places = record { facts = facts_of facts; places = places_of places }

-- whether the place of the row has the row's value in the world
abbrev pub gives_row : World → ℕ → PlaceRow → Bool
gives_row w f r = is_value (value_at w (f, r.args)) r.value

-- whether the place has the value in the world
abbrev pub gives_entry : World → Key × Value → Bool
gives_entry w e = is_value (value_at w e.0) e.1

-- whether all places of the table have their values in the world
abbrev pub gives_table : World → Named (List PlaceRow) → Bool
gives_table w t = list_all (gives_row w t.name) t.rows.value

-- whether the fact of the predicate with these arguments is in the world
abbrev pub has_row : World → ℕ → List Value → Bool
has_row w p a = has_fact w (p, a)

-- whether all facts of the table are in the world
abbrev pub has_table : World → Named (List (List Value)) → Bool
has_table w t = list_all (has_row w t.name) t.rows.value

-- whether no fact of the table is in the world
abbrev pub lacks_table : World → Named (List (List Value)) → Bool
lacks_table w t = list_all (λ a. not (has_row w t.name a)) t.rows.value

-- where the facts and the places with their values are named, so is the world
abbrev pub IsNamedByParts : List Fact → List PlaceValue → World → Type 0
IsNamedByParts facts places w = (n : ℕ) → Each (FactIsNamed n) facts → Each (PlaceIsNamed n) places → WorldIsNamed n w

-- where a world, the facts that are added and the places that are set are named, so is the world
-- after
abbrev pub StaysNamedWith : World → List Fact → List PlaceValue → World → Type 0
StaysNamedWith old adds sets new = (n : ℕ) → WorldIsNamed n old → Each (FactIsNamed n) adds → Each (PlaceIsNamed n) sets →
    WorldIsNamed n new

-- not every fact of the other world is in the world
abbrev pub LacksFacts : World → World → Type 0
LacksFacts w other = list_all (has_fact w) (set.items other.facts) ≡ false
