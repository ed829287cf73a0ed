-- What a whole depth-first search says.
use Rattle.std.specs.Prelude.{◌≡◌, ◌+◌, ℕ, List, Bool}
use Rattle.tl_terms.specs.Problem.{PlainProblem}
use Rattle.tl_search.specs.Ends.{Ends}
use Rattle.tl_search.specs.History.{IsHistory}
use Rattle.tl_search.specs.KeptPairs.{KeptPair, pairs_of}
use Rattle.tl_search.specs.declared.outcome.Report.{Report}
use Rattle.tl_depth.specs.Outcomes.{IsDepthFirstOutcome, AreFewCalls, IsToldOutcome}

-- the answer of the report
abbrev pub IsDepthFirstReport : PlainProblem → ℕ → ℕ → List KeptPair → Report → Type 0
IsDepthFirstReport p n b kept report = IsDepthFirstOutcome p n b (pairs_of kept) report.outcome

-- the steps that were ticked are few
abbrev pub AreFewSteps : PlainProblem → ℕ → List KeptPair → ℕ → ℕ → Type 0
AreFewSteps p n kept before after = (made : ℕ) × (made + before ≡ after) × AreFewCalls p n (pairs_of kept) made

-- its events are true, and tell of all kept pairs
abbrev pub ReportsHistory : PlainProblem → Bool → List KeptPair → Report → Type 0
ReportsHistory p watch kept report = IsHistory p watch kept report.events

-- its events are of all the actions that its answer rests on
abbrev pub TellsOutcome : PlainProblem → ℕ → Bool → List KeptPair → Report → Type 0
TellsOutcome p n watch kept report = IsToldOutcome p n watch (pairs_of kept) report.events report.outcome

-- with a plan or spent, its last event kept the last pair
abbrev pub EndsRightly : Bool → List KeptPair → Report → Type 0
EndsRightly watch kept report = Ends watch kept report.events report.outcome
