-- Tables of rows, each with a number, as lists.
use Rattle.std.specs.Prelude.{ℕ, List, [], ◌∷◌, ◌++◌, map, T, ⊤}
use Rattle.std.proofs.Common.{Ordering}
use Rattle.std.specs.Ordering.{nat_cmp}
use Rattle.std.specs.Cmp.Lexicographic.{slice_cmp}
use Rattle.std.specs.FinSet as set
use Rattle.std.specs.FinMap as dict
use Rattle.tl_syntax.specs.declared.value.Value.{Value}
use Rattle.tl_syntax.specs.Keys.{Key, key_cmp, value_cmp}

-- lexicographic value order
abbrev pub row_cmp : List Value → List Value → Ordering
row_cmp = slice_cmp value_cmp

-- rows by their arguments, each with what stands beside them
abbrev pub PlainRows : Type 0 → Type 0
PlainRows X = List (List Value × X)

-- tables by the numbers of their predicates or functions
abbrev pub PlainTables : Type 0 → Type 0
PlainTables X = List (ℕ × PlainRows X)

-- the entries of the table with the number n
abbrev pub keyed : {X : Type 0} → ℕ → PlainRows X → List (Key × X)
keyed n [] = []
keyed n (r ∷ rs) = ((n, r.0), r.1) ∷ keyed n rs

-- the entries of all tables
abbrev pub entries_of : {X : Type 0} → PlainTables X → List (Key × X)
entries_of [] = []
entries_of (t ∷ ts) = keyed t.0 t.1 ++ entries_of ts

-- the list has an item
abbrev pub HasItem : {X : Type 0} → List X → Type 0
HasItem [] = ⊥
HasItem (x ∷ xs) = ⊤

-- there are rows, in their order and each once
abbrev pub AreRows : {X : Type 0} → PlainRows X → Type 0
AreRows rs = HasItem rs × T (dict.is_sorted row_cmp rs)

-- each table has rows, in their order and each once
abbrev pub EachInOrder : {X : Type 0} → PlainTables X → Type 0
EachInOrder [] = ⊤
EachInOrder (t ∷ ts) = (HasItem t.1 × T (dict.is_sorted row_cmp t.1)) × EachInOrder ts

-- the tables rise by their numbers
abbrev pub InOrder : {X : Type 0} → PlainTables X → Type 0
InOrder ts = T (dict.is_sorted nat_cmp ts) × EachInOrder ts

-- the facts of the tables
abbrev pub set_of : PlainTables (Unit {0}) → set.FinSet key_cmp
set_of ts = set.from_list (map (λ e. e.0) (entries_of ts))

-- the places of the tables with their values
abbrev pub map_of : {X : Type 0} → PlainTables X → dict.FinMap key_cmp X
map_of ts = dict.from_sorted (entries_of ts)
