-- The least tuple above another one that makes the parts of a pattern one of the rows.
use Rattle.std.specs.Prelude.{◌≡◌, ℕ, List, Bool, true, false, cond, ◌&&◌, Option, Some, None, length, take, drop}
use Rattle.std.specs.List.{list_any}
use Rattle.std.specs.Ordering.{is_lt, is_gt}
use Rattle.tl_syntax.specs.declared.value.Value.{Value}
use Rattle.tl_match.specs.declared.pattern.Match.{Match}
use Rattle.tl_match.specs.declared.pattern.Part.{Part}
use Rattle.tl_rows.specs.Plain.{row_cmp}
use Rattle.tl_match.specs.Fits.{fits_all}

-- whether the parts are one of the rows under the tuple's values
abbrev pub fits_some : List Part → List (List Value) → List Value → Bool
fits_some ps rows t = list_any (λ r. fits_all ps r t) rows

-- whether t comes after the k values of the match, where there is one
abbrev pub above : Option Match → ℕ → List Value → Bool
above None k t = true
above (Some a) k t = is_lt (row_cmp (take k a.values) t)

-- whether t comes before the k values of the match, where there is one
abbrev pub lower : Option Match → ℕ → List Value → Bool
lower None k t = true
lower (Some b) k t = is_lt (row_cmp t (take k b.values))

-- the least tuple of k values that passes the test
unfoldable pub IsLeast : ℕ → (List Value → Bool) → Option Match → Type 0
IsLeast k c None = (t : List Value) → length t ≡ k → c t ≡ false
IsLeast k c (Some m) = (m.len ≡ k) × (length (take k m.values) ≡ k) × (c (take k m.values) ≡ true) ×
    ((t : List Value) → length t ≡ k → c t ≡ true → is_gt (row_cmp (take k m.values) t) ≡ false)

-- the match that was found, where it comes after `after` and before the best so far, and else the
-- best so far
abbrev pub lesser : Option Match → Option Match → Option Match → ℕ → Option Match
lesser best None after k = best
lesser best (Some m) after k = cond (above after k (take k m.values) && lower best k (take k m.values)) (Some m) best

-- what was found: the first k of the values, or nothing
abbrev pub match_if : Bool → ℕ → List Value → Option Match
match_if true k values = Some (record { values = values; len = k })
match_if false k values = None

-- whether t comes after the tuple, where one is in place
abbrev pub is_later : Bool → List Value → List Value → Bool
is_later true a t = is_lt (row_cmp a t)
is_later false a t = true

-- the rows from place i on have the tuples of all rows that come after the one in place
abbrev pub HasLater : List Part → Bool → List Value → List (List Value) → ℕ → Type 0
HasLater ps begun a rows i = (t : List Value) → length t ≡ length a → fits_some ps (drop i rows) t ≡
    (fits_some ps rows t && is_later begun a t)

-- the match, where one is in place
abbrev pub match_in_place : Bool → Match → Option Match
match_in_place true m = Some m
match_in_place false m = None

-- the least tuple after the one in place that makes the parts one of the rows is put in place
abbrev pub PutsNext : ℕ → List Part → List (List Value) → Bool → Match → Bool → Match → Type 0
PutsNext k ps rows b old c new = IsLeast k (λ t. fits_some ps rows t && above (match_in_place b old) k t) (match_in_place c new)

-- the values that were found, where any were, are the least tuple that makes the parts one of the
-- rows
abbrev pub IsLeastOf : ℕ → List Part → List (List Value) → Bool → List Value → Type 0
IsLeastOf k ps rows found values = IsLeast k (λ t. fits_some ps rows t) (match_if found k values)

-- the match is the least tuple after `after` that makes the parts one of the rows
abbrev pub IsLeastAfter : ℕ → List Part → List (List Value) → Option Match → Option Match → Type 0
IsLeastAfter k ps rows after found = IsLeast k (λ t. fits_some ps rows t && above after k t) found
