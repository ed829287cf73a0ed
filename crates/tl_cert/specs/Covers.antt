-- Which proofs cover the search space.
use Rattle.std.specs.Prelude.{◌≡◌, ◌≤◌, ◌<◌, ◌+◌, ◌⊎◌, ℕ, List, length, slice_get, Option, Some, None}
use Rattle.tl_syntax.specs.declared.action.Action.{Action}
use Rattle.tl_syntax.specs.Trees.{falsum}
use Rattle.tl_terms.specs.Pairs.{Pair, IsPairAccepted}
use Rattle.tl_terms.specs.Problem.{PlainProblem}
use Rattle.tl_search.specs.KeptPairs.{KeptPair}
use Rattle.tl_search.specs.PairGraph.{next_pair}
use Rattle.tl_search.specs.Plans.{HasNoPlan, HasNoPlanWithin}
use Rattle.tl_cert.specs.Links.{Lists}
use Rattle.tl_cert.specs.declared.proof.Proof.{Proof}

-- the second path has at most one action more than the first, where there is a bound
abbrev pub IsNoFarther : Option ℕ → List Action → List Action → Type 0
IsNoFarther None path other = Unit {0}
IsNoFarther (Some n) path other = length other ≤ length path + 1

-- the pair is listed, and by a path that is no farther than one action after the first
abbrev pub IsListedNear : Option ℕ → List KeptPair → List Action → Pair → Type 0
IsListedNear bound listed path y = (m : ℕ) × (z : KeptPair) × (slice_get listed m ≡ Some z) × (z.node ≡ y) × IsNoFarther bound path z.path

-- the action has no step at the node, or leads to the formula FALSE, or to a listed pair
abbrev pub StaysInside : PlainProblem → Option ℕ → List KeptPair → KeptPair → Action → Type 0
StaysInside p bound listed x a = (y : Pair) → next_pair p x.node a ≡ Some y → (y.formula ≡ falsum) ⊎ IsListedNear bound listed x.path y

-- the node has to be closed: each does, or with a bound each whose path has fewer actions
abbrev pub MustBeClosed : Option ℕ → List Action → Type 0
MustBeClosed None path = Unit {0}
MustBeClosed (Some n) path = length path < n

-- the node is not accepted, and where it has to be closed, it is: every successor is pruned or
-- listed
pub record IsRightNode (p : PlainProblem) (bound : Option ℕ) (listed : List KeptPair) (x : KeptPair) : Type 0 where
  pub unaccepted : IsPairAccepted p x.node → ⊥
  pub closed : MustBeClosed bound x.path → (a : Action) → StaysInside p bound listed x a

-- the proof covers the search space: its links are good, and each listed node is right; where the
-- residual of the empty path is FALSE nothing is listed, and there is no link
pub record Covers (p : PlainProblem) (proof : Proof) : Type 0 where
  pub listed : List KeptPair
  pub lists : Lists p proof.bound proof.links listed
  pub right : (k : ℕ) (x : KeptPair) → slice_get listed k ≡ Some x → IsRightNode p proof.bound listed x

-- no plan is accepted, or with a bound none of at most so many actions
abbrev pub HasNone : PlainProblem → Option ℕ → Type 0
HasNone p None = HasNoPlan p
HasNone p (Some n) = HasNoPlanWithin p n
