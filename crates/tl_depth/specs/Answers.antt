-- What depth-first search says of pairs and plans.
use Rattle.std.specs.Prelude.{◌≡◌, ◌≢◌, ◌≤◌, ◌<◌, ◌+◌, ◌⊎◌, ◌↔◌, ℕ, List, [], ◌∷◌, ◌++◌, length, slice_get, Some, IsTrue, is_some}
use Rattle.std.specs.declared.cmp.Ordering.TheVariants.{Greater}
use Rattle.tl_syntax.specs.declared.action.Action.{Action}
use Rattle.tl_terms.specs.Problem.{PlainProblem}
use Rattle.tl_terms.specs.Orders.{action_cmp}
use Rattle.tl_terms.specs.Pairs.{Pair, pair_of, IsOpen, IsPairAccepted}
use Rattle.tl_terms.specs.Paths.{IsDistance, IsLeading}
use Rattle.tl_terms.specs.Step.{step}
use Rattle.tl_depth.specs.Search.{Reports}
use Rattle.tl_depth.specs.Tables.{IsUncut}
use Rattle.tl_search.specs.Plans.{HasNoPlan, HasNoPlanWithin, HasPairAt, HasNoPairFrom}
use Rattle.tl_search.specs.ListedActions.{ListsActions}

-- a leading path has the pair
pub record IsLed (p : PlainProblem) (n : ℕ) (x : Pair) : Type 0 where
  pub path : List Action
  pub open_path : IsOpen p path
  pub its_pair : pair_of p path ≡ Some x
  pub leading : IsLeading p n path

-- different pairs, each of which some leading path of at most n actions has, and none of the first
-- b of which is accepted
pub record AreLed (p : PlainProblem) (n b : ℕ) (xs : List Pair) : Type 0 where
  pub differ : (i j : ℕ) (x : Pair) → slice_get xs i ≡ Some x → slice_get xs j ≡ Some x → i ≡ j
  pub led : (i : ℕ) (x : Pair) → slice_get xs i ≡ Some x → IsLed p n x
  pub unaccepted : (i : ℕ) (x : Pair) → i < b → slice_get xs i ≡ Some x → IsPairAccepted p x → ⊥

-- a leading path that leaves m of n actions has the pair
pub record IsLedWith (p : PlainProblem) (n : ℕ) (x : Pair) (m : ℕ) : Type 0 where
  pub path : List Action
  pub open_path : IsOpen p path
  pub its_pair : pair_of p path ≡ Some x
  pub leaves : length path + m ≡ n
  pub leading : IsLeading p n path

-- the pair is kept, and was met with some remaining action where l is less than n
abbrev pub IsKeptWithin : ℕ → List Pair → List ℕ → Pair → ℕ → Type 0
IsKeptWithin n kept most x l = (k : ℕ) × (slice_get kept k ≡ Some x) × (m : ℕ) × (slice_get most k ≡ Some m) × (l < n → 0 < m)

-- nothing is left to expand: the kept pairs are those of open paths of at most n actions; and what
-- follows for plans
pub record IsExhausted (p : PlainProblem) (n : ℕ) (reported : Reports Pair) (kept : List Pair) (most : List ℕ) : Type 0 where
  pub none : HasNoPlanWithin p n
  pub led : (k : ℕ) (x : Pair) (m : ℕ) → slice_get kept k ≡ Some x → slice_get most k ≡ Some m → IsLedWith p n x m
  pub all : (path : List Action) (x : Pair) → IsOpen p path → pair_of p path ≡ Some x → length path ≤ n →
      IsKeptWithin n kept most x (length path)
  pub cut : ((k : ℕ) × (slice_get most k ≡ Some 0)) ↔ HasPairAt p n
  pub uncut : IsUncut most → HasNoPlan p × HasNoPairFrom p n
  pub told : (x : Pair) (d : ℕ) → IsDistance p x d → d < n → (a : Action) → IsTrue (is_some (step p x.world a)) → reported x a

-- the pair of each proper prefix of a plan has an event for each of its executable actions up to
-- and including the plan's next one
pub record IsToldAlong (p : PlainProblem) (reported : Reports Pair) (plan : List Action) : Type 0 where
  pub told : (front rest : List Action) (b : Action) (x : Pair) → front ++ b ∷ rest ≡ plan → pair_of p front ≡ Some x
      → (a : Action) → IsTrue (is_some (step p x.world a)) → action_cmp a b ≢ Greater → reported x a

-- an open path of fewer than n actions has the pair, so its distance is below n
pub record IsNearer (p : PlainProblem) (n : ℕ) (x : Pair) : Type 0 where
  pub path : List Action
  pub open_path : IsOpen p path
  pub its_pair : pair_of p path ≡ Some x
  pub short : length path < n

-- the sum of the numbers of executable actions over some of the pairs, each of a distance below n
unfoldable pub IsActionSum : PlainProblem → ℕ → List Pair → ℕ → Type 0
IsActionSum p n [] s = s ≡ 0
IsActionSum p n (x ∷ kept) s =
    IsActionSum p n kept s
    ⊎ ((actions : List Action) × (rest : ℕ) × IsNearer p n x × ListsActions p x.world actions × (s ≡ length actions + rest) ×
    IsActionSum p n kept rest)
