-- Readers of the matches of a pattern in a world, as contracts see them.
use Rattle.std.specs.Prelude.{◌≡◌, ◌≤◌, ℕ, List, Bool, true, false, Option, Some, None, IfSome, length, take}
use Rattle.tl_syntax.specs.declared.value.Value.{Value}
use Rattle.tl_syntax.specs.Lists.{Rises}
use Rattle.tl_terms.specs.World.{World}
use Rattle.tl_match.specs.declared.pattern.Match.{Match}
use Rattle.tl_match.specs.declared.pattern.Pattern.{Pattern}
use Rattle.tl_match.specs.Front.{are_in_turn}
use Rattle.tl_match.specs.Least.{HasLater, PutsNext, fits_some}
use Rattle.tl_match.specs.Next.{IsNext}
use Rattle.tl_match.specs.Patterns.{IsLawful, makes_true, parts_of}
use Rattle.tl_rows.specs.Plain.{row_cmp}

-- the pattern, where it counts
abbrev pub pattern_if : Bool → Pattern → Option Pattern
pattern_if true p = Some p
pattern_if false p = None

-- a reader: its world, the pattern that it goes by, where there is one, and the tuple that it has
-- come to, where there is one
pub record Reading : Type 0 where
  pub world : World
  pub pattern : Option Pattern
  pub tuple : Option (List Value)

-- of the tuples that make the pattern true in the world, it is the least one after the first, where
-- that is given; without a pattern there is none
abbrev pub IsNextBy : World → Option Pattern → Option (List Value) → Option (List Value) → Type 0
IsNextBy w None after next = next ≡ None
IsNextBy w (Some p) after next = IsNext p.free (makes_true w p) after next

-- the new reader has come to the tuple after that of the old one, and reads what the old one reads
pub record ReadsOn (old new : Reading) : Type 0 where
  pub world : new.world ≡ old.world
  pub pattern : new.pattern ≡ old.pattern
  pub next : IsNextBy old.world old.pattern old.tuple new.tuple

-- the rows are those by which the pattern is true in the world, and from the place on they have its
-- tuples after the one in place
pub record GoesThrough (w : World) (p : Pattern) (begun : Bool) (m : Match) (place : ℕ) (rows : List (List Value)) : Type 0 where
  pub turn : are_in_turn 0 (parts_of p) ≡ true
  pub order : Rises row_cmp rows
  pub table : (t : List Value) → length t ≡ p.free → fits_some (parts_of p) rows t ≡ makes_true w p t
  pub bound : place ≤ length rows
  pub later : HasLater (parts_of p) begun (take p.free m.values) rows place

-- what each reader keeps: the pattern is lawful, the tuple that it has come to has a value for each
-- variable, and it goes through the rows that it has; without a pattern it has neither
abbrev pub CanReadOn : World → Option Pattern → Bool → Match → ℕ → Option (List (List Value)) → Type 0
CanReadOn w None begun m place rows = (begun ≡ false) × (rows ≡ None)
CanReadOn w (Some p) begun m place rows = IsLawful p × (begun ≡ true → m.len ≡ p.free) × IfSome rows (GoesThrough w p begun m place)

-- from the place on the rows have the pattern's tuples that come after the one in place
abbrev pub HasLaterOf : Pattern → Bool → Match → List (List Value) → ℕ → Type 0
HasLaterOf p begun m rows place = HasLater (parts_of p) begun (take p.free m.values) rows place

-- the pattern's least tuple after the one in place is put in place
abbrev pub PutsNextOf : Pattern → List (List Value) → Bool → Match → Bool → Match → Type 0
PutsNextOf p rows begun old found new = PutsNext p.free (parts_of p) rows begun old found new

-- no tuple is in place, and from the place on the rows have all of the pattern's tuples
abbrev pub ReadsAll : World → Pattern → Match → ℕ → List (List Value) → Type 0
ReadsAll w p m place rows = GoesThrough w p false m place rows
