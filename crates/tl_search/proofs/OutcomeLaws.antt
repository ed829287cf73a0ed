-- What answers exclude.
use Rattle.std.proofs.Common.{◌≤◌, ◌<◌, ℕ, List, length, arith}
use Rattle.tl_terms.specs.Pairs.{Pair}
use Rattle.tl_terms.specs.Problem.{PlainProblem}
use Rattle.tl_search.specs.LawsOutcomes.{AnswersExclude}
use Rattle.tl_search.specs.Spent.{HasFewPairs, IsSpent}

-- at most b pairs within n, and the search is not spent
pub few-not-spent : (p : PlainProblem) (n b : ℕ) (xs : List Pair) → HasFewPairs p n b → IsSpent p n b xs → ⊥
few-not-spent p n b xs few h = let q : length xs ≤ b = few xs h.near in omega (arith, h.many)

pub answers-exclude : (p : PlainProblem) (n : ℕ) → AnswersExclude p n
answers-exclude p n = record {
  plan_or_none = λ plan h none. none plan h.accepted;
  plan_or_none_within = λ plan h none. none plan h.short h.accepted;
  none_or_none_within = λ none some. let q : n < n = none some.0 n some.1 in omega arith;
}
