-- When a fact holds along some worlds, told by its changes.
use Rattle.std.specs.Prelude.{◌≡◌, ◌-◌, ◌+◌, ◌<◌, ℕ, zero, suc, List, [], ◌∷◌, Bool, false, cond, nat_le}
use Rattle.tl_check.specs.declared.line.Change.{Change}
use Rattle.tl_check.specs.declared.span.Span.{Span}
use Rattle.tl_syntax.specs.Lists.{Each}

-- the truth at a position: that of the last change up to it, and b before the first one
abbrev pub truth_from : Bool → List Change → ℕ → Bool
truth_from b [] i = b
truth_from b (c ∷ cs) i = cond (nat_le c.at i) (truth_from c.truth cs i) b

-- all changes come before the position
abbrev pub AreBefore : ℕ → List Change → Type 0
AreBefore n cs = Each (λ c. c.at < n) cs

-- this is the truth at each position that no change comes after
abbrev pub IsLastTruth : List Change → Bool → Type 0
IsLastTruth cs b = (i : ℕ) → AreBefore (i + 1) cs → truth_from false cs i ≡ b

-- the test at n positions from i on
abbrev pub test_from : (ℕ → Bool) → ℕ → ℕ → List Bool
test_from t i zero = []
test_from t i (suc n) = t i ∷ test_from t (suc i) n

-- the test at each position of the span
abbrev pub test_in : (ℕ → Bool) → Span → List Bool
test_in t span = test_from t span.from (span.to - span.from)
