-- Open paths, accepted plans, distances and leading paths.
use Rattle.std.specs.Prelude.{◌≡◌, ◌≢◌, ◌↔◌, ℕ, List, [], ◌∷◌, ◌++◌, Some}
use Rattle.std.specs.Option.{option_and_then}
use Rattle.tl_syntax.specs.declared.action.Action.{Action}
use Rattle.tl_syntax.specs.Trees.{falsum}
use Rattle.tl_terms.specs.Problem.{PlainProblem}
use Rattle.tl_terms.specs.Acceptance.{IsAccepted}
use Rattle.tl_terms.specs.Pairs.{Pair, pair_of, IsOpen, IsPairAccepted}
use Rattle.tl_terms.specs.Paths.{IsDistance, IsLeading}
use Rattle.tl_search.specs.Graphs.{walk}
use Rattle.tl_search.specs.PairGraph.{next_pair, pair_graph}

-- the pair of a path with one more action is the pair after that action
abbrev pub PairGoesOn : Type 0
PairGoesOn = (p : PlainProblem) (path : List Action) (a : Action) → pair_of p (path ++ a ∷ []) ≡
    option_and_then (λ x. next_pair p x a) (pair_of p path)

-- a walk leads to a pair exactly where it is a path with that pair, whose formula is not FALSE
abbrev pub WalksHavePairs : Type 0
WalksHavePairs = (p : PlainProblem) (path : List Action) (x : Pair) → (walk (pair_graph p) path ≡ Some x) ↔
    ((pair_of p path ≡ Some x) × (x.formula ≢ falsum))

-- the open paths are the walks
abbrev pub OpenPathsAreWalks : Type 0
OpenPathsAreWalks = (p : PlainProblem) (path : List Action) → IsOpen p path ↔ ((x : Pair) × (walk (pair_graph p) path ≡ Some x))

-- the accepted plans are the walks to accepted pairs
abbrev pub AcceptedPlansAreWalks : Type 0
AcceptedPlansAreWalks = (p : PlainProblem) (plan : List Action) → IsAccepted p plan ↔
    ((x : Pair) × (walk (pair_graph p) plan ≡ Some x) × IsPairAccepted p x)

-- each prefix of an open path is open, and so is each prefix of an accepted plan
pub record PrefixesAreOpen : Type 0 where
  pub of_open : (p : PlainProblem) (front rest : List Action) → IsOpen p (front ++ rest) → IsOpen p front
  pub of_accepted : (p : PlainProblem) (front rest : List Action) → IsAccepted p (front ++ rest) → IsOpen p front

-- two distances of one pair are the same
abbrev pub DistanceIsOne : Type 0
DistanceIsOne = (p : PlainProblem) (x : Pair) (m n : ℕ) → IsDistance p x m → IsDistance p x n → m ≡ n

-- each prefix of a leading path is leading
abbrev pub PrefixesAreLeading : Type 0
PrefixesAreLeading = (p : PlainProblem) (n : ℕ) (front rest : List Action) → IsLeading p n (front ++ rest) → IsLeading p n front
