-- The rows of a table with their first two values exchanged, which a large table also keeps in
-- order.
use Rattle.std.specs.Prelude.{◌≡◌, ◌<◌, ◌-◌, ℕ, List, [], ◌∷◌, length, slice_index_or, Option, Some, None}
use Rattle.std.specs.List.{insert, remove, sum_by}
use Rattle.std.specs.declared.cmp.Ordering.TheVariants.{Less}
use Rattle.tl_syntax.specs.declared.value.Value.{Value}
use Rattle.tl_syntax.specs.Lists.{Rises}
use Rattle.tl_rows.specs.Plain.{row_cmp}

-- the items with the first two exchanged, where there are two
abbrev pub exchanged : {X : Type 0} → List X → List X
exchanged [] = []
exchanged (x ∷ []) = x ∷ []
exchanged (x ∷ y ∷ zs) = y ∷ x ∷ zs

-- `second` has the rows, each exchanged and as often, whatever their order: a sum over them is the
-- sum over the rows
abbrev pub AreExchanged : List (List Value) → List (List Value) → Type 0
AreExchanged rows second = (f : List Value → ℕ) → sum_by f second ≡ sum_by (λ r. f (exchanged r)) rows

-- it has them in their order besides, which is the order of the rows by the second value, the first
-- and then the others
pub record IsSecond (rows second : List (List Value)) : Type 0 where
  pub order : Rises row_cmp second
  pub are : AreExchanged rows second

-- where a second order is kept, it is that of the rows
abbrev pub IsKept : List (List Value) → Option (List (List Value)) → Type 0
IsKept rows None = Unit {0}
IsKept rows (Some second) = IsSecond rows second

-- what was kept of some rows, and what is kept with one more row
abbrev pub KeepsWith : Option (List (List Value)) → List Value → Option (List (List Value)) → Type 0
KeepsWith before row after = (rows : List (List Value)) (k : ℕ) → IsKept rows before → IsKept (insert rows k row) after

-- what was kept of some rows, and what is kept without one of them
abbrev pub KeepsWithout : Option (List (List Value)) → List Value → Option (List (List Value)) → Type 0
KeepsWithout before gone after = (rows : List (List Value)) (k : ℕ) → k < length rows → gone ≡ slice_index_or rows k gone
    → IsKept rows before → IsKept (remove rows k) after

-- row k comes after the one before it, where there is one
abbrev pub IsInTurn : List (List Value) → ℕ → Type 0
IsInTurn rows k = 0 < k → (d : List Value) → row_cmp (slice_index_or rows (k - 1) d) (slice_index_or rows k d) ≡ Less
