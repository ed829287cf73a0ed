-- What a search answers.
use Rattle.std.specs.Prelude.{ℕ, List}
use Rattle.tl_syntax.specs.declared.action.Action.{Action}
use Rattle.tl_terms.specs.Problem.{PlainProblem}
use Rattle.tl_terms.specs.Pairs.{Pair}
use Rattle.tl_search.specs.Plans.{HasNoPlan, HasNoPlanWithin, HasPairAt, HasNoPairFrom, IsPlanWithin}
use Rattle.tl_search.specs.Spent.{HasFewPairs, IsSpent}

-- a plan within the bound, no plan, and no plan within the bound exclude each other
pub record AnswersExclude (p : PlainProblem) (n : ℕ) : Type 0 where
  pub plan_or_none : (plan : List Action) → IsPlanWithin p n plan → HasNoPlan p → ⊥
  pub plan_or_none_within : (plan : List Action) → IsPlanWithin p n plan → HasNoPlanWithin p n → ⊥
  pub none_or_none_within : HasNoPairFrom p n → HasPairAt p n → ⊥

-- so it is with every bound
abbrev pub AnswersExcludeEachOther : Type 0
AnswersExcludeEachOther = (p : PlainProblem) (n : ℕ) → AnswersExclude p n

-- a search among few pairs is not spent
abbrev pub FewPairsAreNotSpent : Type 0
FewPairsAreNotSpent = (p : PlainProblem) (n b : ℕ) (xs : List Pair) → HasFewPairs p n b → IsSpent p n b xs → ⊥
