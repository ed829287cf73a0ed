-- Places that are not set.
use Rattle.std.specs.Prelude.{◌≡◌, ◌<◌, ℕ, Bool, false, List, [], map, length, slice_get, slice_index_or, Some}
use Rattle.std.specs.FinMap as dict
use Rattle.std.specs.List.{list_any}
use Rattle.std.specs.Ordering.{eq_by_cmp}
use Rattle.tl_syntax.specs.declared.place_value.PlaceValue.{PlaceValue}
use Rattle.tl_syntax.specs.declared.value.Value.{Value}
use Rattle.tl_syntax.specs.Keys.{Key, key_cmp, place_entry}
use Rattle.tl_terms.specs.Acceptance.{is_value}
use Rattle.tl_terms.specs.World.{World, value_at}
use Rattle.tl_rows.specs.declared.named.Named.{Named}
use Rattle.tl_rows.specs.declared.table.PlaceRow.{PlaceRow}
use Rattle.tl_rows.specs.Tables.{keyed, entries_of, place_row, place_tables}

-- whether this place is one of those that are set
abbrev pub is_set : List PlaceValue → Key → Bool
is_set sets q = list_any (λ p. eq_by_cmp key_cmp q (place_entry p).0) sets

-- the place that is set has its value in the world
abbrev pub has_value : World → PlaceValue → Bool
has_value w p = is_value (value_at w (place_entry p).0) (place_entry p).1

-- places have the same values in both lists, but for those that are set
abbrev pub AreValuesBeside : List PlaceValue → List (Key × Value) → List (Key × Value) → Type 0
AreValuesBeside sets es fs = (q : Key) → is_set sets q ≡ false → dict.find key_cmp q es ≡ dict.find key_cmp q fs

-- those of the function with the number n have them so in two tables
abbrev pub ArePlacesBeside : List PlaceValue → ℕ → List PlaceRow → List PlaceRow → Type 0
ArePlacesBeside sets n rows others = AreValuesBeside sets (keyed n (map place_row rows)) (keyed n (map place_row others))

-- and those of the tables of two worlds
abbrev pub ArePlaceTablesBeside : List PlaceValue → List (Named (List PlaceRow)) → List (Named (List PlaceRow)) → Type 0
ArePlaceTablesBeside sets ts us = AreValuesBeside sets (entries_of (place_tables ts)) (entries_of (place_tables us))

-- where tables have one number and one function, their places have the same values
abbrev pub TellPlaces : List (Named (List PlaceRow)) → List ℕ → List (Named (List PlaceRow)) → List ℕ → Type 0
TellPlaces ts ks us ls = (i j k : ℕ) (t u : Named (List PlaceRow)) → i < length ts → j < length us → t ≡ slice_index_or ts i t → u ≡
    slice_index_or us j u → t.name ≡ u.name → slice_get ks i ≡ Some k → slice_get ls j ≡ Some k →
    ArePlacesBeside [] t.name t.rows.value u.rows.value

-- places have the same values in both maps, but for those that are set
abbrev pub AreSameUnset : List PlaceValue → dict.FinMap key_cmp Value → dict.FinMap key_cmp Value → Type 0
AreSameUnset sets m t = (q : Key) → is_set sets q ≡ false → dict.get m q ≡ dict.get t q
