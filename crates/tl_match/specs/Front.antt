-- The leading values of a row that a pattern asks for, as far as the values of its first variables
-- are known.
use Rattle.std.specs.Prelude.{◌≡◌, ◌≤◌, ℕ, ◌+◌, List, [], ◌∷◌, Bool, true, false, ◌&&◌, cond, ◌==◌, nat_le, Option, Some, None, slice_get}
use Rattle.std.specs.Prelude.{length, take, drop}
use Rattle.std.specs.declared.cmp.Ordering.{Ordering}
use Rattle.std.specs.declared.cmp.Ordering.TheVariants.{Less, Equal, Greater}
use Rattle.tl_syntax.specs.declared.value.Value.{Value}
use Rattle.tl_syntax.specs.Lists.{Each}
use Rattle.tl_match.specs.declared.pattern.Match.{Match}
use Rattle.tl_match.specs.declared.pattern.Part.{Part}
use Rattle.tl_match.specs.declared.pattern.Part.TheVariants.{Fixed, Free}
use Rattle.tl_match.specs.Fits.{fits_at, BeginsAs}
use Rattle.tl_rows.specs.Plain.{row_cmp}

-- the value of a part: a fixed one, or that of one of the first variables, of which n came before
abbrev pub known_value : ℕ → List Value → Part → Option Value
known_value n known (Fixed v) = Some v
known_value n known (Free m) = cond (nat_le m n) (slice_get known m) None

-- how many of the first variables came before what follows the part
abbrev pub seen_after : ℕ → Part → ℕ
seen_after n (Fixed v) = n
seen_after n (Free m) = cond (m == n) (n + 1) n

-- a tuple that begins with the first n of the old values and makes the part v begins with the new
-- ones as far as they are known after the part
abbrev pub BeginsOn : Part → Value → ℕ → List Value → List Value → Type 0
BeginsOn p v n old new = (t : List Value) → BeginsAs n old t → fits_at p v t ≡ true → BeginsAs (seen_after n p) new t

-- how many of the first variables came before what follows the parts
abbrev pub seen_in : ℕ → List Part → ℕ
seen_in n [] = n
seen_in n (p ∷ ps) = seen_in (seen_after n p) ps

-- the value and then the others, where there is one
abbrev pub led_by : Option Value → List Value → List Value
led_by None vs = []
led_by (Some v) vs = v ∷ vs

-- the values of the leading parts, up to the first part without a known value or with a variable
-- out of turn
abbrev pub front : ℕ → List Part → List Value → List Value
front n [] known = []
front n (p ∷ ps) known = led_by (known_value n known p) (front (seen_after n p) ps known)

-- how the front stands to as many leading values of the row
abbrev pub front_cmp : List Value → List Value → Ordering
front_cmp f row = row_cmp f (take (length f) row)

-- the values that a match knows
abbrev pub known_of : Option Match → ℕ → List Value
known_of None k = []
known_of (Some m) k = take k m.values

-- whether a row to which the front stands so is passed over, with those that tie or without them
abbrev pub is_passed : Bool → Ordering → Bool
is_passed ties Less = false
is_passed ties Equal = ties
is_passed ties Greater = true

-- the first i rows are passed over
abbrev pub ArePassed : Bool → List Value → List (List Value) → ℕ → Type 0
ArePassed ties f rows i = Each (λ r. is_passed ties (front_cmp f r) ≡ true) (take i rows)

-- the rows from place i on are not
abbrev pub AreKept : Bool → List Value → List (List Value) → ℕ → Type 0
AreKept ties f rows i = Each (λ r. is_passed ties (front_cmp f r) ≡ false) (drop i rows)

-- place i is that of the first row that is not passed over
pub record IsFirstKept (ties : Bool) (f : List Value) (rows : List (List Value)) (i : ℕ) : Type 0 where
  pub bound : i ≤ length rows
  pub before : ArePassed ties f rows i
  pub after : AreKept ties f rows i

-- whether the part is fixed, or one of the first variables, of which n came before, or the next one
abbrev pub is_in_turn : ℕ → Part → Bool
is_in_turn n (Fixed v) = true
is_in_turn n (Free m) = nat_le m n

-- whether the variables after the first n first stand in the order of their numbers
abbrev pub are_in_turn : ℕ → List Part → Bool
are_in_turn n [] = true
are_in_turn n (p ∷ ps) = is_in_turn n p && are_in_turn (seen_after n p) ps
