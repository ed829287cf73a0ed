-- What a search for a cheapest plan answers, and why it gives no answer.
use Rattle.std.specs.Prelude.{◌≡◌, ◌≢◌, ◌≤◌, ℕ, ◌+◌, Bool, true, false, List, [], ◌∷◌, ◌++◌, length, Option, Some, None, Result, Ok, Err}
use Rattle.tl_syntax.specs.declared.action.Action.{Action}
use Rattle.tl_terms.specs.Problem.{PlainProblem}
use Rattle.tl_terms.specs.Pairs.{IsPairAccepted}
use Rattle.tl_eval.specs.Notes.{operation_of}
use Rattle.tl_eval.specs.declared.range.RangeNote.{RangeNote}
use Rattle.tl_world.specs.declared.task.Task.{Task}
use Rattle.tl_search.specs.Calls.{AreNamedIn, ForPair}
use Rattle.tl_search.specs.KeptPairs.{KeptPair, pairs_of}
use Rattle.tl_search.specs.Plans.{HasNoPlan}
use Rattle.tl_search.specs.declared.fault.SearchFault.{SearchFault}
use Rattle.tl_search.specs.declared.fault.SearchFault.TheVariants as fault
use Rattle.tl_cost.specs.LeastCosts.{AreNearPairs, HasFewNearPairs, IsCalmAtLeastCost, IsCheapestCause, IsCheapestPlan}
use Rattle.tl_cost.specs.Ways.{Follows, listed_len}
use Rattle.tl_cost.specs.declared.outcome.CostOutcome.{CostOutcome}
use Rattle.tl_cost.specs.declared.outcome.CostOutcome.TheVariants as outcome
use Rattle.tl_cost.specs.declared.ways.Found.{Found}

-- b + 1 different pairs are kept, each of them near
pub record IsSpentNear (p : PlainProblem) (costs : List ℕ) (b : ℕ) (kept : List KeptPair) : Type 0 where
  pub many : length kept ≡ b + 1
  pub near : AreNearPairs p costs (pairs_of kept)

-- a plan is cheapest; no plan says that there is none; Spent comes of b + 1 near pairs, and the
-- other answers of at most b kept ones
abbrev pub IsCheapestOutcome : PlainProblem → List ℕ → ℕ → List KeptPair → CostOutcome → Type 0
IsCheapestOutcome p costs b kept (outcome.Plan plan cost) = IsCheapestPlan p costs plan cost × (length kept ≤ b)
IsCheapestOutcome p costs b kept outcome.NoPlan = HasNoPlan p × (length kept ≤ b)
IsCheapestOutcome p costs b kept outcome.Spent = IsSpentNear p costs b kept

-- past range has its cause; want of memory has no cause
abbrev pub IsCheapestFault : PlainProblem → List ℕ → ℕ → SearchFault → Type 0
IsCheapestFault p costs b (fault.Range path note) = IsCheapestCause p costs b path (operation_of note)
IsCheapestFault p costs b fault.NoMemory = Unit {0}

-- the actions of the plan, where there is one, are named in the problem of the task
abbrev pub CostOutcomeIsNamed : Task → CostOutcome → Type 0
CostOutcomeIsNamed task (outcome.Plan plan cost) = AreNamedIn task plan
CostOutcomeIsNamed task outcome.NoPlan = Unit {0}
CostOutcomeIsNamed task outcome.Spent = Unit {0}

-- a plan, or none, or want of memory
abbrev pub IsPlanOrNone : Result CostOutcome SearchFault → Type 0
IsPlanOrNone (Ok o) = o ≢ outcome.Spent
IsPlanOrNone (Err e) = e ≡ fault.NoMemory

-- where no operation past range is the cause of a fault and at most b pairs are near, the search
-- answers a plan, or none, or want of memory
abbrev pub AnswersWhereCalm : PlainProblem → List ℕ → ℕ → Result CostOutcome SearchFault → Type 0
AnswersWhereCalm p costs b result = IsCalmAtLeastCost p costs b → HasFewNearPairs p costs b → IsPlanOrNone result

-- what a turn leaves: an outcome that ends the search, or none
abbrev pub Leaves : PlainProblem → List ℕ → ℕ → List KeptPair → Type 0 → Option CostOutcome → Type 0
Leaves p costs b kept goes_on None = goes_on
Leaves p costs b kept goes_on (Some o) = IsCheapestOutcome p costs b kept o

-- the named plan, where the turn ends the search
abbrev pub EndIsNamed : Task → Option CostOutcome → Type 0
EndIsNamed task None = Unit {0}
EndIsNamed task (Some o) = CostOutcomeIsNamed task o

-- the search is spent, or goes on
abbrev pub SpentOr : PlainProblem → List ℕ → ℕ → List KeptPair → Type 0 → Bool → Type 0
SpentOr p costs b kept goes_on true = IsSpentNear p costs b kept
SpentOr p costs b kept goes_on false = goes_on

-- as many pairs are settled as before: the pairs that were kept are open
abbrev pub OpensAsMany : List KeptPair → List KeptPair → Found → Found → Type 0
OpensAsMany old new was is = length new + listed_len was.open_list ≡ length old + listed_len is.open_list

-- so it is where the search is not spent
abbrev pub OpensUnlessSpent : List KeptPair → List KeptPair → Found → Found → Bool → Type 0
OpensUnlessSpent old new was is true = Unit {0}
OpensUnlessSpent old new was is false = OpensAsMany old new was is

-- so it is where a turn does not end the search
abbrev pub OpensIfNone : List KeptPair → List KeptPair → Found → Found → Option CostOutcome → Type 0
OpensIfNone old new was is None = OpensAsMany old new was is
OpensIfNone old new was is (Some o) = Unit {0}

-- the fault tells of the operation after the way to the pair of this number; or memory ran out
abbrev pub TellsWay : Found → ℕ → RangeNote → SearchFault → Type 0
TellsWay found at note (fault.Range path told) = (told ≡ note) × Follows found.ways.items at path
TellsWay found at note fault.NoMemory = Unit {0}

-- the pair of this number is not accepted
abbrev pub IsUnaccepted : PlainProblem → List KeptPair → ℕ → Type 0
IsUnaccepted p kept at = ForPair kept at (λ x. IsPairAccepted p x.node → ⊥)

-- or of that way with one more action
abbrev pub TellsWayOn : Found → ℕ → Action → RangeNote → SearchFault → Type 0
TellsWayOn found at a note (fault.Range path told) = (told ≡ note) × ((front : List Action) × Follows found.ways.items at front ×
    (path ≡ front ++ a ∷ []))
TellsWayOn found at a note fault.NoMemory = Unit {0}
