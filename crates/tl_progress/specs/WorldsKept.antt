-- What is kept of worlds, entry by entry, in the order in which it came.
use Rattle.std.specs.Prelude.{◌≡◌, ◌≤◌, ◌<◌, ◌&&◌, ℕ, List, Bool, cond, Option, Some, length, take, nat_eq}
use Rattle.std.specs.Map.{lookup}
use Rattle.tl_progress.specs.declared.residuals.Incoming.{Incoming}
use Rattle.tl_syntax.specs.Lists.{Each}

-- the same world, and the same formula
abbrev pub same_incoming : Incoming → Incoming → Bool
same_incoming a b = nat_eq a.world b.world && nat_eq a.formula b.formula

-- the number that is kept for a world and a formula
abbrev pub number_for : List (Incoming × ℕ) → Incoming → Option ℕ
number_for es q = lookup (same_incoming q) es

-- the number is kept for what comes in, and all else is as before
abbrev pub HasPut : List (Incoming × ℕ) → List (Incoming × ℕ) → Incoming → ℕ → Type 0
HasPut old new incoming number = (q : Incoming) → number_for new q ≡ cond (same_incoming incoming q) (Some number) (number_for old q)

-- the entry is of this world or of one before it
abbrev pub IsUpTo : ℕ → Incoming × ℕ → Type 0
IsUpTo world e = e.0.world ≤ world

-- the entry is of a world before this one
abbrev pub IsBefore : ℕ → Incoming × ℕ → Type 0
IsBefore world e = e.0.world < world

-- no entry is of a world after the newest, and those of the newest begin at this place or later
pub record NewestEnds (newest begins : ℕ) (es : List (Incoming × ℕ)) : Type 0 where
  pub within : begins ≤ length es
  pub known : Each (IsUpTo newest) es
  pub before : Each (IsBefore newest) (take begins es)
