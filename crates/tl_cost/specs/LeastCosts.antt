-- Plans and paths of least cost.
use Rattle.std.specs.Prelude.{◌≡◌, ◌≤◌, ◌⊎◌, ℕ, List, [], ◌∷◌, ◌++◌, length, slice_get, Some}
use Rattle.tl_syntax.specs.declared.action.Action.{Action}
use Rattle.tl_terms.specs.Acceptance.{IsAccepted}
use Rattle.tl_terms.specs.Operations.{Operation}
use Rattle.tl_terms.specs.Pairs.{Pair, pair_of, IsOpen}
use Rattle.tl_terms.specs.Problem.{PlainProblem}
use Rattle.tl_search.specs.RangeCauses.{IsRangeCause}
use Rattle.tl_cost.specs.PlanCosts.{plan_cost}

-- no accepted plan costs less than c
abbrev pub HasNoCheaperPlan : PlainProblem → List ℕ → ℕ → Type 0
HasNoCheaperPlan p costs c = (plan : List Action) → IsAccepted p plan → c ≤ plan_cost costs plan

-- the plan is accepted and has this cost, no accepted plan costs less, and none of this cost has
-- fewer actions
pub record IsCheapestPlan (p : PlainProblem) (costs : List ℕ) (plan : List Action) (cost : ℕ) : Type 0 where
  pub accepted : IsAccepted p plan
  pub its_cost : plan_cost costs plan ≡ cost
  pub least : HasNoCheaperPlan p costs cost
  pub shortest : (other : List Action) → IsAccepted p other → plan_cost costs other ≡ cost → length plan ≤ length other

-- some open path with the pair has the cost c, and none costs less
pub record IsLeastCost (p : PlainProblem) (costs : List ℕ) (x : Pair) (c : ℕ) : Type 0 where
  pub path : List Action
  pub open_path : IsOpen p path
  pub its_pair : pair_of p path ≡ Some x
  pub its_cost : plan_cost costs path ≡ c
  pub least : (other : List Action) → IsOpen p other → pair_of p other ≡ Some x → c ≤ plan_cost costs other

-- the path has a last action, and the least cost of the pair before it is at most that of every
-- accepted plan
pub record EndsCheaply (p : PlainProblem) (costs : List ℕ) (path : List Action) : Type 0 where
  pub front : List Action
  pub last : Action
  pub parts : path ≡ front ++ last ∷ []
  pub before : Pair
  pub its_pair : pair_of p front ≡ Some before
  pub cost : ℕ
  pub its_cost : IsLeastCost p costs before cost
  pub cheap : HasNoCheaperPlan p costs cost

-- the pair is that of the empty path, or of an open path that ends cheaply
pub record IsNearPair (p : PlainProblem) (costs : List ℕ) (x : Pair) : Type 0 where
  pub path : List Action
  pub open_path : IsOpen p path
  pub its_pair : pair_of p path ≡ Some x
  pub near : (path ≡ []) ⊎ EndsCheaply p costs path

-- different pairs, each of them near
pub record AreNearPairs (p : PlainProblem) (costs : List ℕ) (xs : List Pair) : Type 0 where
  pub differ : (i j : ℕ) (x : Pair) → slice_get xs i ≡ Some x → slice_get xs j ≡ Some x → i ≡ j
  pub near : (i : ℕ) (x : Pair) → slice_get xs i ≡ Some x → IsNearPair p costs x

-- at most b pairs are near
abbrev pub HasFewNearPairs : PlainProblem → List ℕ → ℕ → Type 0
HasFewNearPairs p costs b = (xs : List Pair) → AreNearPairs p costs xs → length xs ≤ b

-- the path has a last action, and without it is open and costs no more than any accepted plan
pub record BeginsCheaply (p : PlainProblem) (costs : List ℕ) (path : List Action) : Type 0 where
  pub front : List Action
  pub last : Action
  pub parts : path ≡ front ++ last ∷ []
  pub open_front : IsOpen p front
  pub cheap : HasNoCheaperPlan p costs (plan_cost costs front)

-- the path executes, has at most b actions, and is empty or begins cheaply; in its last world the
-- operation is past range, and is looked at there by progressing what comes in, by the idling check
-- or by an action
pub record IsCheapestCause (p : PlainProblem) (costs : List ℕ) (b : ℕ) (path : List Action) (o : Operation) : Type 0 where
  pub cause : IsRangeCause p b path o
  pub begins : (path ≡ []) ⊎ BeginsCheaply p costs path

-- no operation past range is the cause of a fault
abbrev pub IsCalmAtLeastCost : PlainProblem → List ℕ → ℕ → Type 0
IsCalmAtLeastCost p costs b = (path : List Action) (o : Operation) → IsCheapestCause p costs b path o → ⊥
