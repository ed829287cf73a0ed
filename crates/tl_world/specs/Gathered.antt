-- The tuples of a pattern, gathered in one pass.
use Rattle.std.specs.Prelude.{◌≡◌, ◌↔◌, ℕ, List, [], ◌∷◌, ◌++◌, true, Option, Some, None, Bool, length, drop}
use Rattle.tl_syntax.specs.declared.value.Value.{Value}
use Rattle.tl_syntax.specs.Lists.{Among}
use Rattle.tl_terms.specs.World.{World}
use Rattle.tl_match.specs.declared.pattern.Match.{Match}
use Rattle.tl_match.specs.declared.pattern.Part.{Part}
use Rattle.tl_match.specs.declared.pattern.Pattern.{Pattern}
use Rattle.tl_match.specs.Least.{fits_some}
use Rattle.tl_match.specs.Next.{IsChain}
use Rattle.tl_match.specs.Patterns.{makes_true, tuple_of, tuple_in_place}

-- the tuples with that of the match, where there is one
abbrev pub with_match : List (List Value) → Option Match → List (List Value)
with_match ts None = ts
with_match ts (Some m) = ts ++ tuple_of m ∷ []

-- the tuples are those of k values that make the parts one of the rows
abbrev pub AreTuplesOf : ℕ → List Part → List (List Value) → List (List Value) → Type 0
AreTuplesOf k ps rows ts = (t : List Value) → Among t ts ↔ ((length t ≡ k) × (fits_some ps rows t ≡ true))

-- the tuples are all that make the pattern true in the world
abbrev pub HasAllTuples : World → Pattern → List (List Value) → Type 0
HasAllTuples w p ts = (t : List Value) → Among t ts ↔ ((length t ≡ p.free) × (makes_true w p t ≡ true))

-- the tuples are the matches of the pattern, one after another
abbrev pub AreMatches : World → Pattern → List (List Value) → Type 0
AreMatches w p ts = IsChain p.free (makes_true w p) None ts

-- where no rows are gone through, the tuples from the place on are those of the pattern after the
-- one in place, each the next one after that before it
abbrev pub HasRest : World → Option Pattern → Bool → Match → ℕ → Option (List (List Value)) → List (List Value) → Type 0
HasRest w None begun m place rows ts = ⊥
HasRest w (Some p) begun m place rows ts = (rows ≡ None) × IsChain p.free (makes_true w p) (tuple_in_place begun m) (drop place ts)
