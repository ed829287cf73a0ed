-- The next tuple that passes a test, and the chain of all of them.
use Rattle.std.specs.Prelude.{◌≡◌, ◌↔◌, ℕ, List, [], ◌∷◌, Bool, true, false, ◌&&◌, Option, Some, None, length}
use Rattle.std.specs.declared.cmp.Ordering.TheVariants.{Less}
use Rattle.std.specs.Ordering.{is_gt}
use Rattle.tl_syntax.specs.declared.value.Value.{Value}
use Rattle.tl_syntax.specs.Lists.{Among, Rises}
use Rattle.tl_terms.specs.World.{World}
use Rattle.tl_match.specs.declared.pattern.Match.{Match}
use Rattle.tl_match.specs.declared.pattern.Pattern.{Pattern}
use Rattle.tl_match.specs.Least.{IsLeast, above, match_in_place}
use Rattle.tl_rows.specs.Plain.{row_cmp}
use Rattle.tl_match.specs.Patterns.{makes_true, is_true_of, filled, parts_of, tuple_in_place, IsLawful}

-- t comes after the tuple, where one is given, in lexicographic value order
abbrev pub IsAfter : Option (List Value) → List Value → Type 0
IsAfter None t = Unit {0}
IsAfter (Some a) t = row_cmp a t ≡ Less

-- t has k values, passes the test and comes after the given tuple
abbrev pub IsLater : ℕ → (List Value → Bool) → Option (List Value) → List Value → Type 0
IsLater k test after t = (length t ≡ k) × (test t ≡ true) × IsAfter after t

-- the least of the later tuples, or none where there is none
abbrev pub IsNext : ℕ → (List Value → Bool) → Option (List Value) → Option (List Value) → Type 0
IsNext k test after None = (t : List Value) → ¬ IsLater k test after t
IsNext k test after (Some m) = IsLater k test after m × ((t : List Value) → IsLater k test after t → is_gt (row_cmp m t) ≡ false)

-- the least tuple after the one in place that makes the pattern true in the world is put in place,
-- where there is one
abbrev pub PutsNextMatch : World → Pattern → Bool → Match → Bool → Match → Type 0
PutsNextMatch w p b old c new = IsNext p.free (makes_true w p) (tuple_in_place b old) (tuple_in_place c new)

-- the least tuple after the one in place that makes the pattern a fact of the world, or a place
-- with its value, is put in place
abbrev pub PutsNextOf : World → Bool → Pattern → Bool → Match → Bool → Match → Type 0
PutsNextOf w place p b old c new =
    IsLeast p.free (λ t. is_true_of w place p.name (filled (parts_of p) t) && above (match_in_place b old) p.free t) (match_in_place c new)

-- each is the next one after the one before it, and none comes after the last
abbrev pub IsChain : ℕ → (List Value → Bool) → Option (List Value) → List (List Value) → Type 0
IsChain k test after [] = IsNext k test after None
IsChain k test after (t ∷ ts) = IsNext k test after (Some t) × IsChain k test (Some t) ts

-- the chain of the tuples that make a pattern true has all of them, each once, in lexicographic
-- value order
abbrev pub ChainHasAllMatches : Type 0
ChainHasAllMatches = (w : World) (p : Pattern) (ts : List (List Value)) → IsChain p.free (makes_true w p) None ts → Rises row_cmp ts ×
    ((t : List Value) → Among t ts ↔ ((length t ≡ p.free) × (makes_true w p t ≡ true)))

-- each pattern has such a chain, so its matches have an end
abbrev pub MatchesHaveAnEnd : Type 0
MatchesHaveAnEnd = (w : World) (p : Pattern) → IsLawful p → (ts : List (List Value)) × IsChain p.free (makes_true w p) None ts
