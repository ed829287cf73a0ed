-- What a world feeds a hasher: its code, which is that of its tables.
use Rattle.std.specs.Prelude.{ℕ, List, [], ◌∷◌, cond, nat_eq}
use Rattle.std.specs.Hash as fed
use Rattle.std.specs.Hash.{HashWrites}
use Rattle.std.specs.FinSet as set
use Rattle.std.specs.FinMap as dict
use Rattle.tl_syntax.specs.declared.value.Value.{Value}
use Rattle.tl_syntax.specs.Keys.{Key, key_cmp}
use Rattle.tl_terms.specs.World.{World}
use Rattle.tl_rows.specs.Plain.{PlainTables}
use Rattle.tl_rows.specs.Codes.{tables_code}

-- the tables whose entries a list in order has
abbrev pub push_row : {X : Type 0} → Key × X → PlainTables X → PlainTables X
push_row e [] = (e.0.0, (e.0.1, e.1) ∷ []) ∷ []
push_row e (t ∷ ts) = cond (nat_eq e.0.0 t.0) ((t.0, (e.0.1, e.1) ∷ t.1) ∷ ts) ((e.0.0, (e.0.1, e.1) ∷ []) ∷ t ∷ ts)

-- a list of entries as tables
abbrev pub group : {X : Type 0} → List (Key × X) → PlainTables X
group [] = []
group (e ∷ es) = push_row e (group es)

-- each with nothing beside it
abbrev pub marked : List Key → List (Key × Unit {0})
marked [] = []
marked (k ∷ ks) = (k, tt) ∷ marked ks

-- the facts in their order
abbrev pub ordered : set.FinSet key_cmp → dict.FinMap key_cmp (Unit {0})
ordered s = dict.from_entries (marked (set.items s))

-- the facts of a world as tables
abbrev pub facts_in : World → PlainTables (Unit {0})
facts_in w = group (dict.entries (ordered w.facts))

-- the places of a world as tables
abbrev pub places_in : World → PlainTables Value
places_in w = group (dict.entries w.places)

-- the code of a world, which is that of its tables
abbrev pub world_code : World → ℕ
world_code w = tables_code (facts_in w) (places_in w)

-- what a world feeds a hasher: its code
unfoldable pub world_fed : World → HashWrites
world_fed w = fed.u64 (world_code w)
