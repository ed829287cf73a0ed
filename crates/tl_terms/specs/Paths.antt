-- Distances, and paths that repeat no pair.
use Rattle.std.specs.Prelude.{◌≡◌, ◌≢◌, ◌≤◌, ℕ, List, ◌++◌, length, Some, IsSome}
use Rattle.std.specs.declared.cmp.Ordering.TheVariants.{Less}
use Rattle.tl_syntax.specs.declared.action.Action.{Action}
use Rattle.tl_terms.specs.Problem.{PlainProblem}
use Rattle.tl_terms.specs.Acceptance.{IsAccepted}
use Rattle.tl_terms.specs.Orders.{plan_cmp}
use Rattle.tl_terms.specs.Pairs.{Pair, pair_of, IsOpen}

-- some open path of n actions has the pair, and none of fewer
pub record IsDistance (p : PlainProblem) (x : Pair) (n : ℕ) : Type 0 where
  pub path : List Action
  pub open_path : IsOpen p path
  pub its_pair : pair_of p path ≡ Some x
  pub its_length : length path ≡ n
  pub least : (other : List Action) → IsOpen p other → pair_of p other ≡ Some x → n ≤ length other

-- a path whose prefixes, itself included, all have different pairs
pub record IsSimple (p : PlainProblem) (path : List Action) : Type 0 where
  pub executes : IsSome (pair_of p path)
  pub differ : (front rest other left : List Action) → front ++ rest ≡ path → other ++ left ≡ path → pair_of p front ≡ pair_of p other →
      front ≡ other

-- a simple path of at most n actions that no simple accepted plan of at most n actions comes before
pub record IsLeading (p : PlainProblem) (n : ℕ) (path : List Action) : Type 0 where
  pub short : length path ≤ n
  pub simple : IsSimple p path
  pub first : (other : List Action) → length other ≤ n → IsSimple p other → IsAccepted p other → plan_cmp other path ≢ Less
