-- A world is a finite set of facts and a finite map of places, under the closed-world assumption
-- (Reiter 1978).
use Rattle.std.specs.Prelude.{map, List, [], ◌∷◌, ◌++◌, flat_map, Bool, Option}
use Rattle.std.specs.FinSet as set
use Rattle.std.specs.FinMap as dict
use Rattle.tl_syntax.specs.declared.value.Value.{Value}
use Rattle.tl_syntax.specs.Keys.{Key, key_cmp, value_cmp}

-- the facts that are true, and the values of the places that have one; what is not there is false
-- or undefined
pub record World : Type 0 where
  pub facts : set.FinSet key_cmp
  pub places : dict.FinMap key_cmp Value

-- whether the fact is in the world
abbrev pub has_fact : World → Key → Bool
has_fact w k = set.contains w.facts k

-- the value of the place, where it has one
abbrev pub value_at : World → Key → Option Value
value_at w k = dict.get w.places k

-- all values that stand in the world
abbrev pub values_in : World → List Value
values_in w = flat_map (λ k. k.1) (set.items w.facts) ++ flat_map (λ e. e.1 ∷ e.0.1) (dict.entries w.places)

-- each with nothing beside it
abbrev pub marked : List Value → List (Value × Unit {0})
marked [] = []
marked (v ∷ vs) = (v, tt) ∷ marked vs

-- the values of the worlds, in their order, each once: the keys of a finite map
unfoldable pub values_of : List World → List Value
values_of ws = map (λ e. e.0) (dict.entries (dict.from_entries {R = value_cmp} (marked (flat_map values_in ws))))
