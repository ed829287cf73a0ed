-- Runs, and the truth of formulas along them.
use Rattle.std.specs.Prelude.{◌≡◌, ℕ, suc, ◌+◌, ◌-◌, ◌%◌, ◌<◌, ◌≤◌, ◌⊎◌, List, [], ◌∷◌, length, slice_index_or, cond, IsTrue, nat_lt}
use Rattle.tl_syntax.specs.Lists.{Each, AtLeastOne}
use Rattle.tl_syntax.specs.Trees.{FormulaTree, FormulaTrees, verum, falsum, atom, defined, compare, goal_fact, goal_place, goal_not}
use Rattle.tl_syntax.specs.Trees.{negation, conjunction, disjunction, for_all, for_some, next, always, eventually, until, within, during}
use Rattle.tl_syntax.specs.Trees.{no_formula, more_formulas}
use Rattle.tl_terms.specs.World.{World}
use Rattle.tl_terms.specs.Problem.{PlainProblem}
use Rattle.tl_terms.specs.Situation.{Situation}
use Rattle.tl_syntax.specs.Assignment.{Assignment, no_values, bind}
use Rattle.tl_terms.specs.Bounds.{tuples}
use Rattle.tl_terms.specs.Truth.{state_true}
use Rattle.tl_terms.specs.Definitions.{situation_of}

-- the situation at each position
abbrev pub Situations : Type 0
Situations = ℕ → Situation

-- the formula holds at position i (linear temporal logic, Pnueli 1977; with bounded quantifiers,
-- Bacchus and Kabanza 2000); a basic formula is read in the situation there
unfoldable mutual
  pub Holds : Situations → Assignment → FormulaTree → ℕ → Type 0
  Holds r e verum i = Unit {0}
  Holds r e falsum i = ⊥
  Holds r e (atom p ts) i = IsTrue (state_true (r i) e (atom p ts))
  Holds r e (defined p ts) i = IsTrue (state_true (r i) e (defined p ts))
  Holds r e (compare c x y) i = IsTrue (state_true (r i) e (compare c x y))
  Holds r e (goal_fact p xs) i = IsTrue (state_true (r i) e (goal_fact p xs))
  Holds r e (goal_place f xs x) i = IsTrue (state_true (r i) e (goal_place f xs x))
  Holds r e (goal_not p xs) i = IsTrue (state_true (r i) e (goal_not p xs))
  Holds r e (negation f) i = Holds r e f i → ⊥
  Holds r e (conjunction fs) i = HoldAll r e fs i
  Holds r e (disjunction fs) i = HoldsOne r e fs i
  Holds r e (for_all ss b f) i = Each (λ t. Holds r (bind ss t e) f i) (tuples (r i) e ss b)
  Holds r e (for_some ss b f) i = AtLeastOne (λ t. Holds r (bind ss t e) f i) (tuples (r i) e ss b)
  Holds r e (next f) i = Holds r e f (suc i)
  Holds r e (always f) i = (j : ℕ) → i ≤ j → Holds r e f j
  Holds r e (eventually f) i = (j : ℕ) × (i ≤ j) × Holds r e f j
  Holds r e (until f g) i = (j : ℕ) × (i ≤ j) × Holds r e g j × ((k : ℕ) → i ≤ k → k < j → Holds r e f k)
  Holds r e (within n f) i = (j : ℕ) × (i ≤ j) × (j ≤ i + n) × Holds r e f j
  Holds r e (during n f) i = (j : ℕ) → i ≤ j → j ≤ i + n → Holds r e f j

  pub HoldAll : Situations → Assignment → FormulaTrees → ℕ → Type 0
  HoldAll r e no_formula i = Unit {0}
  HoldAll r e (more_formulas f fs) i = Holds r e f i × HoldAll r e fs i

  pub HoldsOne : Situations → Assignment → FormulaTrees → ℕ → Type 0
  HoldsOne r e no_formula i = ⊥
  HoldsOne r e (more_formulas f fs) i = Holds r e f i ⊎ HoldsOne r e fs i

-- a lasso (Sistla and Clarke 1985): a finite list of worlds, the stem, and a loop of one or more
-- worlds, `first` and `rest`, that is repeated for ever after it
pub record Run : Type 0 where
  pub stem : List World
  pub first : World
  pub rest : List World

-- the world at a position
unfoldable pub state_at : Run → ℕ → World
state_at r i = cond (nat_lt i (length r.stem)) (slice_index_or r.stem i r.first)
    (slice_index_or (r.first ∷ r.rest) ((i - length r.stem) % suc (length r.rest)) r.first)

-- an infinite sequence of worlds, any worlds at all
abbrev pub Worlds : Type 0
Worlds = ℕ → World

-- the situation at each position of the sequence
abbrev pub situations_along : PlainProblem → Worlds → Situations
situations_along p ws i = situation_of p (ws i)

-- the formula holds at position i of the sequence, under the goal list and the definitions of the
-- problem
unfoldable pub SatisfiesAlong : PlainProblem → Worlds → ℕ → FormulaTree → Type 0
SatisfiesAlong p ws i f = Holds (situations_along p ws) no_values f i

-- the situation at each position of the run
abbrev pub situations_of : PlainProblem → Run → Situations
situations_of p r = situations_along p (state_at r)

-- the formula holds at position i of the run, which is one such sequence
abbrev pub Satisfies : PlainProblem → Run → ℕ → FormulaTree → Type 0
Satisfies p r = SatisfiesAlong p (state_at r)

-- the run that repeats one world for ever
abbrev pub idle_run : World → Run
idle_run w = record { stem = []; first = w; rest = [] }

-- the sequence has these worlds from position i on
abbrev pub Begins : Worlds → ℕ → List World → Type 0
Begins s i [] = Unit {0}
Begins s i (w ∷ ws) = (s i ≡ w) × Begins s (suc i) ws
