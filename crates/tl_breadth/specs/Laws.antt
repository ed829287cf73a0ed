-- The steps of a breadth-first search and its answers.
use Rattle.std.specs.Prelude.{◌≡◌, ◌≤◌, ◌<◌, ◌+◌, ℕ, List, [], ◌∷◌, ◌++◌, length, take, slice_get, Some, None}
use Rattle.tl_syntax.specs.declared.action.Action.{Action}
use Rattle.tl_terms.specs.Problem.{PlainProblem}
use Rattle.tl_terms.specs.Pairs.{Pair, IsPairAccepted}
use Rattle.tl_terms.specs.Paths.{IsDistance}
use Rattle.tl_search.specs.Kept.{AreKept}
use Rattle.tl_search.specs.PairGraph.{pair_graph}
use Rattle.tl_search.specs.Plans.{HasNoPlan, HasNoPlanWithin, HasNoPlanBelow, HasPairAt, HasNoPairFrom, IsFirstShortestPlan}
use Rattle.tl_search.specs.Spent.{IsSpent, IsSpentBreadthFirst}
use Rattle.tl_search.specs.KeptPairs.{KeptPair, pairs_of}
use Rattle.tl_breadth.specs.BreadthFirst.{IsBreadthFirst, NoneAccepted}
use Rattle.tl_search.specs.ListedActions.{ListsActions}

-- the root is kept: the search begins
abbrev pub BreadthFirstBegins : Type 0
BreadthFirstBegins = (p : PlainProblem) (n : ℕ) (x : Pair) → (pair_graph p).root ≡ Some x →
    IsBreadthFirst p n (record { node = x; path = [] } ∷ []) 0 []

-- the k-th listed action at pair `done` is tried: its end is pruned, or kept already, or kept now
pub record ActionIsTried (p : PlainProblem) (n : ℕ) (kept : List KeptPair) (done : ℕ) (x : KeptPair) (listed : List Action) (k : ℕ)
    (a : Action) : Type 0 where
  pub pruned : (pair_graph p).after x.node a ≡ None → IsBreadthFirst p n kept done (take (k + 1) listed)
  pub seen : (m : ℕ) (u : KeptPair) → slice_get kept m ≡ Some u → (pair_graph p).after x.node a ≡ Some u.node →
      IsBreadthFirst p n kept done (take (k + 1) listed)
  pub fresh : (v : Pair) → (pair_graph p).after x.node a ≡ Some v → AreKept (pair_graph p)
      (kept ++ record { node = v; path = x.path ++ a ∷ [] } ∷ []) → length x.path < n →
      IsBreadthFirst p n (kept ++ record { node = v; path = x.path ++ a ∷ [] } ∷ []) done (take (k + 1) listed)

-- the listed actions are tried one after another
abbrev pub BreadthFirstTries : Type 0
BreadthFirstTries = (p : PlainProblem) (n : ℕ) (kept : List KeptPair) (done : ℕ) (x : KeptPair) (listed : List Action) →
    ListsActions p x.node.world listed → slice_get kept done ≡ Some x → (k : ℕ) (a : Action) → slice_get listed k ≡ Some a →
    IsBreadthFirst p n kept done (take k listed) → ActionIsTried p n kept done x listed k a

-- all listed actions were tried, so the next pair has its turn
abbrev pub BreadthFirstGoesOn : Type 0
BreadthFirstGoesOn = (p : PlainProblem) (n : ℕ) (kept : List KeptPair) (done : ℕ) (x : KeptPair) (listed : List Action) →
    ListsActions p x.node.world listed → slice_get kept done ≡ Some x → IsBreadthFirst p n kept done listed → length x.path < n →
    IsBreadthFirst p n kept (done + 1) []

-- what holds of the last pair that is kept, where none before it is accepted
pub record LastKept (p : PlainProblem) (n b : ℕ) (kept : List KeptPair) (last : KeptPair) : Type 0 where
  pub no_shorter : HasNoPlanBelow p (length last.path)
  pub plan : IsPairAccepted p last.node → IsFirstShortestPlan p n last.path
  pub spent : IsSpent p n b (pairs_of kept)
  pub spent_breadth_first : IsSpentBreadthFirst p b (pairs_of kept)

-- the last pair answers for the search: with a plan if it is accepted, and with Spent if there are
-- too many
abbrev pub LastKeptAnswers : Type 0
LastKeptAnswers = (p : PlainProblem) (n : ℕ) (kept : List KeptPair) (done : ℕ) (tried : List Action) → IsBreadthFirst p n kept done tried →
    (b : ℕ) (last : KeptPair) → slice_get kept b ≡ Some last → length kept ≡ b + 1 → NoneAccepted p kept b → LastKept p n b kept last

-- what holds where no kept pair is accepted: of the pair whose turn it is, of one at the bound, and
-- where none is left
pub record NoneKept (p : PlainProblem) (n : ℕ) (kept : List KeptPair) (done : ℕ) : Type 0 where
  pub turn : (x : KeptPair) → slice_get kept done ≡ Some x → HasNoPlanBelow p (length x.path + 1)
  pub within : (x : KeptPair) → slice_get kept done ≡ Some x → n ≤ length x.path → HasNoPlanWithin p n × HasPairAt p n
  pub no_plan : length kept ≤ done → HasNoPlan p
  pub no_pair : length kept ≤ done → HasNoPairFrom p n

-- where no kept pair is accepted, the search answers for all plans
abbrev pub NoneKeptAnswers : Type 0
NoneKeptAnswers = (p : PlainProblem) (n : ℕ) (kept : List KeptPair) (done : ℕ) (tried : List Action) → IsBreadthFirst p n kept done tried →
    NoneAccepted p kept (length kept) → NoneKept p n kept done

-- the distance of a kept pair is the length of its path
abbrev pub KeptPathsAreShortest : Type 0
KeptPathsAreShortest = (p : PlainProblem) (n : ℕ) (kept : List KeptPair) (done : ℕ) (tried : List Action) →
    IsBreadthFirst p n kept done tried → (i : ℕ) (x : KeptPair) → slice_get kept i ≡ Some x → IsDistance p x.node (length x.path)

-- a problem whose root is pruned has no plan and no pair
pub record PrunedRootHasNone (p : PlainProblem) : Type 0 where
  pub no_plan : HasNoPlan p
  pub no_pair : (n : ℕ) → HasNoPairFrom p n

-- the pruned root answers for the search
abbrev pub PrunedRootAnswers : Type 0
PrunedRootAnswers = (p : PlainProblem) → (pair_graph p).root ≡ None → PrunedRootHasNone p
