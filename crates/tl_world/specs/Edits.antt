-- What edits of tables make of their facts and places.
use Rattle.std.specs.Prelude.{◌≡◌, List, map, Bool}
use Rattle.std.specs.FinMap as dict
use Rattle.std.specs.FinSet as set
use Rattle.std.specs.List.{list_any}
use Rattle.std.specs.Ordering.{eq_by_cmp}
use Rattle.tl_syntax.specs.declared.fact.Fact.{Fact}
use Rattle.tl_syntax.specs.declared.place_value.PlaceValue.{PlaceValue}
use Rattle.tl_syntax.specs.declared.value.Value.{Value}
use Rattle.tl_syntax.specs.Keys.{Key, key_cmp, fact_key, place_entry}
use Rattle.tl_terms.specs.Step.{with_all, without_all, overwritten}
use Rattle.tl_rows.specs.declared.named.Named.{Named}
use Rattle.tl_rows.specs.declared.table.PlaceRow.{PlaceRow}
use Rattle.tl_rows.specs.Tables.{facts_of, places_of}

-- the tables have the same facts without this one
abbrev pub LosesFact : Fact → List (Named (List (List Value))) → List (Named (List (List Value))) → Type 0
LosesFact f old new = facts_of new ≡ set.remove (facts_of old) (fact_key f)

-- and so without some facts
abbrev pub LosesFacts : List Fact → List (Named (List (List Value))) → List (Named (List (List Value))) → Type 0
LosesFacts dels old new = facts_of new ≡ without_all (facts_of old) (map fact_key dels)

-- the facts without some and then with others
abbrev pub changed_facts : set.FinSet key_cmp → List Fact → List Fact → set.FinSet key_cmp
changed_facts s dels adds = with_all (without_all s (map fact_key dels)) (map fact_key adds)

-- the places with the values that are set; of two for one place the earlier counts
abbrev pub changed_places : dict.FinMap key_cmp Value → List PlaceValue → dict.FinMap key_cmp Value
changed_places m sets = overwritten m (map place_entry sets)

-- the tables have the same facts with this one
abbrev pub GainsFact : Key → List (Named (List (List Value))) → List (Named (List (List Value))) → Type 0
GainsFact q old new = facts_of new ≡ set.insert (facts_of old) q

-- and so with some facts
abbrev pub GainsFacts : List Fact → List (Named (List (List Value))) → List (Named (List (List Value))) → Type 0
GainsFacts adds old new = facts_of new ≡ with_all (facts_of old) (map fact_key adds)

-- the tables have the same facts without some and then with others
abbrev pub AreChangedBy : List Fact → List Fact → List (Named (List (List Value))) → List (Named (List (List Value))) → Type 0
AreChangedBy dels adds old new = facts_of new ≡ changed_facts (facts_of old) dels adds

-- the tables have the same values, but for one place, which has this one
abbrev pub SetsPlace : Key → Value → List (Named (List PlaceRow)) → List (Named (List PlaceRow)) → Type 0
SetsPlace q v old new = places_of new ≡ dict.insert (places_of old) q v

-- the tables have the same values, but for the places that are set
abbrev pub SetsPlaces : List PlaceValue → List (Named (List PlaceRow)) → List (Named (List PlaceRow)) → Type 0
SetsPlaces sets old new = places_of new ≡ changed_places (places_of old) sets

-- whether this fact is one of them
abbrev pub lists_fact : List Fact → Key → Bool
lists_fact facts q = list_any (λ f. eq_by_cmp key_cmp q (fact_key f)) facts
