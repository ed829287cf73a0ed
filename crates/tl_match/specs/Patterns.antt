-- Patterns: bounds with their known values put in (Bacchus and Kabanza 2000, bounded
-- quantification).
use Rattle.std.specs.Prelude.{◌≡◌, ◌↔◌, ◌≤◌, ◌<◌, ◌-◌, ℕ, List, Bool, true, false, map, length, take, slice_get, slice_index_or, Option}
use Rattle.std.specs.Prelude.{Some, None}
use Rattle.tl_syntax.specs.declared.value.Value.{Value}
use Rattle.tl_syntax.specs.declared.value.Value.TheVariants.{Sym}
use Rattle.tl_syntax.specs.Lists.{Among}
use Rattle.tl_terms.specs.World.{World, has_fact, value_at}
use Rattle.tl_terms.specs.Bounds.{same_value}
use Rattle.tl_match.specs.declared.pattern.Match.{Match}
use Rattle.tl_match.specs.declared.pattern.Part.{Part}
use Rattle.tl_match.specs.declared.pattern.Part.TheVariants.{Fixed, Free}
use Rattle.tl_match.specs.declared.pattern.Pattern.{Pattern}

-- a part with the tuple's values put in
abbrev pub fill : List Value → Part → Value
fill t (Fixed v) = v
fill t (Free n) = slice_index_or t n (Sym 0)

-- the parts with the tuple's values put in
abbrev pub filled : List Part → List Value → List Value
filled ps t = map (fill t) ps

-- the parts that count
abbrev pub parts_of : Pattern → List Part
parts_of p = take p.len p.parts

-- whether the fact is in the world, or the place of all values but the last has the last as its
-- value
abbrev pub is_true_of : World → Bool → ℕ → List Value → Bool
is_true_of w false n vs = has_fact w (n, vs)
is_true_of w true n vs = same_value (value_at w (n, take (length vs - 1) vs)) (slice_get vs (length vs - 1))

-- whether the tuple makes the pattern true in the world
abbrev pub makes_true : World → Pattern → List Value → Bool
makes_true w p t = is_true_of w p.place p.name (filled (parts_of p) t)

-- what each pattern keeps: at most 9 parts, at least one for a place, and the variables among the
-- parts are exactly those below `free`
pub record IsLawful (p : Pattern) : Type 0 where
  pub parts : p.len ≤ 9
  pub variables : p.free ≤ 9
  pub with_value : p.place ≡ true → 1 ≤ p.len
  pub each : (n : ℕ) → Among (Free n) (parts_of p) ↔ (n < p.free)

-- the values of a match that count
abbrev pub tuple_of : Match → List Value
tuple_of m = take m.len m.values

-- the values of a match that count, where one is in place
abbrev pub tuple_in_place : Bool → Match → Option (List Value)
tuple_in_place true m = Some (tuple_of m)
tuple_in_place false m = None
