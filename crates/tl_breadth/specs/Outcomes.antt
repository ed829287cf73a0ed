-- What a breadth-first search answers, and why it gives no answer.
use Rattle.std.specs.Prelude.{◌≡◌, ◌≤◌, ◌<◌, ◌+◌, ℕ, List, [], length, take, slice_get, Option, Some, None}
use Rattle.tl_syntax.specs.declared.action.Action.{Action}
use Rattle.tl_terms.specs.Problem.{PlainProblem}
use Rattle.tl_terms.specs.Paths.{IsDistance}
use Rattle.tl_eval.specs.Notes.{operation_of}
use Rattle.tl_search.specs.Plans.{HasNoPlan, HasNoPlanWithin, HasNoPlanBelow, HasPairAt, HasNoPairFrom, IsFirstShortestPlan}
use Rattle.tl_search.specs.Spent.{IsSpent, IsSpentBreadthFirst}
use Rattle.tl_search.specs.RangeCauses.{IsRangeCause}
use Rattle.tl_search.specs.KeptPairs.{KeptPair, pairs_of}
use Rattle.tl_breadth.specs.BreadthFirst.{IsBreadthFirst, NoneAccepted}
use Rattle.tl_breadth.specs.declared.levels.BreadthFirst.{BreadthFirst}
use Rattle.tl_breadth.specs.declared.levels.Level.{Level}
use Rattle.tl_search.specs.ListedActions.{ListsActions}
use Rattle.tl_search.specs.declared.outcome.Outcome.{Outcome}
use Rattle.tl_search.specs.declared.outcome.Outcome.TheVariants as outcome
use Rattle.tl_search.specs.declared.fault.SearchFault.{SearchFault}
use Rattle.tl_search.specs.declared.fault.SearchFault.TheVariants as fault

-- the distance of each kept pair is the length of its path
abbrev pub PathsAreShortest : PlainProblem → List KeptPair → Type 0
PathsAreShortest p kept = (i : ℕ) (x : KeptPair) → slice_get kept i ≡ Some x → IsDistance p x.node (length x.path)

-- a plan is the first of the shortest; no plan and none within n exactly say what is not there;
-- Spent comes of b + 1 pairs, and the other answers of at most b
abbrev pub IsBreadthFirstOutcome : PlainProblem → ℕ → ℕ → List KeptPair → Outcome → Type 0
IsBreadthFirstOutcome p n b kept (outcome.Plan plan) = IsFirstShortestPlan p n plan × (length kept ≤ b) × PathsAreShortest p kept
IsBreadthFirstOutcome p n b kept outcome.NoPlan = HasNoPlan p × HasNoPairFrom p n × (length kept ≤ b) × PathsAreShortest p kept
IsBreadthFirstOutcome p n b kept outcome.NoneWithin = HasNoPlanWithin p n × HasPairAt p n × (length kept ≤ b) × PathsAreShortest p kept
IsBreadthFirstOutcome p n b kept outcome.Spent = IsSpent p n b (pairs_of kept) × IsSpentBreadthFirst p b (pairs_of kept) ×
    PathsAreShortest p kept

-- past range has its cause, and no accepted plan is shorter than the path; want of memory has no
-- cause
abbrev pub IsBreadthFirstFault : PlainProblem → ℕ → SearchFault → Type 0
IsBreadthFirstFault p n (fault.Range path note) = IsRangeCause p n path (operation_of note) × HasNoPlanBelow p (length path)
IsBreadthFirstFault p n fault.NoMemory = Unit {0}

-- none of the kept pairs is accepted, and there are not too many
pub record IsSearching (p : PlainProblem) (n b : ℕ) (kept : List KeptPair) (done : ℕ) (tried : List Action) : Type 0 where
  pub breadth : IsBreadthFirst p n kept done tried
  pub none : NoneAccepted p kept (length kept)
  pub few : length kept ≤ b

-- the last of the kept pairs, of number k, has still to be judged
pub record AwaitsJudgement (p : PlainProblem) (n b : ℕ) (kept : List KeptPair) (k : ℕ) : Type 0 where
  pub done : ℕ
  pub tried : List Action
  pub breadth : IsBreadthFirst p n kept done tried
  pub none : NoneAccepted p kept k
  pub last : length kept ≡ k + 1
  pub few : k ≤ b

-- so it is in the search
abbrev pub AwaitsJudgementIn : BreadthFirst → PlainProblem → List KeptPair → ℕ → Type 0
AwaitsJudgementIn s p kept k = AwaitsJudgement p s.within s.nodes kept k

-- the action is tried next at pair `at`: the k-th of the listed ones, of which those before it were
-- tried
pub record HasTurn (p : PlainProblem) (n b : ℕ) (kept : List KeptPair) (at : ℕ) (a : Action) : Type 0 where
  pub pair : KeptPair
  pub is_pair : slice_get kept at ≡ Some pair
  pub short : length pair.path < n
  pub listed : List Action
  pub lists : ListsActions p pair.node.world listed
  pub k : ℕ
  pub turn : slice_get listed k ≡ Some a
  pub searching : IsSearching p n b kept at (take k listed)

-- so it is in the search
abbrev pub HasTurnIn : BreadthFirst → PlainProblem → List KeptPair → ℕ → Action → Type 0
HasTurnIn s p kept at a = HasTurn p s.within s.nodes kept at a

-- the search went on by trying the action, the k-th of any listed ones, and kept at most one more
-- pair
abbrev pub IsTriedThen : PlainProblem → ℕ → ℕ → List KeptPair → List KeptPair → ℕ → Action → Type 0
IsTriedThen p n b old new at a = (pair : KeptPair) (listed : List Action) (k : ℕ) → slice_get old at ≡ Some pair →
    ListsActions p pair.node.world listed → slice_get listed k ≡ Some a → IsSearching p n b old at (take k listed) →
    IsSearching p n b new at (take (k + 1) listed)

-- the list has grown: old pairs have their numbers still, and each new one has a path of m actions
pub record GrowsBy (m : ℕ) (old new : List KeptPair) : Type 0 where
  pub longer : length old ≤ length new
  pub stay : (i : ℕ) (x : KeptPair) → slice_get old i ≡ Some x → slice_get new i ≡ Some x
  pub come : (i : ℕ) (x : KeptPair) → slice_get new i ≡ Some x → length old ≤ i → length x.path ≡ m

-- the pair has its turn, and is near enough to be expanded
pub record IsReady (p : PlainProblem) (n b : ℕ) (kept : List KeptPair) (at : ℕ) : Type 0 where
  pub pair : KeptPair
  pub is_pair : slice_get kept at ≡ Some pair
  pub short : length pair.path < n
  pub searching : IsSearching p n b kept at []

-- so it is in the search
abbrev pub IsReadyIn : BreadthFirst → PlainProblem → List KeptPair → ℕ → Type 0
IsReadyIn s p kept at = IsReady p s.within s.nodes kept at

-- the pairs from `done` on are of two levels: those below `end` have paths of `depth` actions, the
-- others of one more
abbrev pub HasLevels : List KeptPair → ℕ → ℕ → ℕ → Type 0
HasLevels kept done end depth = (i : ℕ) (x : KeptPair) → slice_get kept i ≡ Some x → done ≤ i → (i < end → length x.path ≡ depth) ×
    (end ≤ i → length x.path ≡ depth + 1)

-- what one part of the search leaves: an outcome that ends it, or none
abbrev pub Leaves : PlainProblem → ℕ → ℕ → List KeptPair → Type 0 → Option Outcome → Type 0
Leaves p n b kept goes_on None = goes_on
Leaves p n b kept goes_on (Some o) = IsBreadthFirstOutcome p n b kept o

-- the search stands at the first pair of a level
pub record IsAtLevel (p : PlainProblem) (n b : ℕ) (kept : List KeptPair) (done end depth : ℕ) : Type 0 where
  pub searching : IsSearching p n b kept done []
  pub levels : HasLevels kept done end depth
  pub inside : end ≤ length kept
  pub here : done ≤ length kept

-- so it is of a level of the search
abbrev pub IsAtLevelIn : BreadthFirst → PlainProblem → List KeptPair → Level → Type 0
IsAtLevelIn s p kept level = IsAtLevel p s.within s.nodes kept level.start level.end level.depth

-- and of its first level, that of the root
abbrev pub IsAtRootIn : BreadthFirst → PlainProblem → List KeptPair → Type 0
IsAtRootIn s p kept = IsAtLevel p s.within s.nodes kept 0 (length kept) 0

-- an outcome that ends it, or the next pair has its turn
abbrev pub LeavesNext : BreadthFirst → PlainProblem → List KeptPair → ℕ → Option Outcome → Type 0
LeavesNext s p kept done = Leaves p s.within s.nodes kept (IsSearching p s.within s.nodes kept done [])

-- an outcome that ends it, or the search stands at the first pair of the last level
abbrev pub LeavesLevel : BreadthFirst → PlainProblem → List KeptPair → ℕ → ℕ → Option Outcome → Type 0
LeavesLevel s p kept done depth = Leaves p s.within s.nodes kept (IsAtLevel p s.within s.nodes kept done (length kept) depth)

-- an outcome that ends it, or the action of the pair is tried
abbrev pub LeavesTried : BreadthFirst → PlainProblem → List KeptPair → List KeptPair → ℕ → Action → Option Outcome → Type 0
LeavesTried s p old new at a = Leaves p s.within s.nodes new (IsTriedThen p s.within s.nodes old new at a)

-- an outcome that ends it, or none of the first k pairs is accepted, and they are not too many
abbrev pub LeavesUnaccepted : BreadthFirst → PlainProblem → List KeptPair → ℕ → Option Outcome → Type 0
LeavesUnaccepted s p kept k = Leaves p s.within s.nodes kept (NoneAccepted p kept k × (k ≤ s.nodes))

-- the list has grown by pairs whose paths have an action more than that of the pair of a number
abbrev pub GrowsAfter : ℕ → List KeptPair → List KeptPair → Type 0
GrowsAfter at old new = (pair : KeptPair) → slice_get old at ≡ Some pair → GrowsBy (length pair.path + 1) old new

-- a part of the search ends it with a plan or spent alone
abbrev pub EndsEarly : Option Outcome → Type 0
EndsEarly None = Unit {0}
EndsEarly (Some (outcome.Plan plan)) = Unit {0}
EndsEarly (Some outcome.NoPlan) = ⊥
EndsEarly (Some outcome.NoneWithin) = ⊥
EndsEarly (Some outcome.Spent) = Unit {0}
