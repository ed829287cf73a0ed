-- What a whole breadth-first search says.
use Rattle.std.specs.Prelude.{ℕ, List, Bool}
use Rattle.tl_terms.specs.Problem.{PlainProblem}
use Rattle.tl_search.specs.KeptPairs.{KeptPair}
use Rattle.tl_search.specs.declared.outcome.Report.{Report}
use Rattle.tl_breadth.specs.Events.{HasReported, EndsWithPath}
use Rattle.tl_breadth.specs.Outcomes.{IsBreadthFirstOutcome}

-- the answer of the report
abbrev pub IsBreadthFirstReport : PlainProblem → ℕ → ℕ → List KeptPair → Report → Type 0
IsBreadthFirstReport p n b kept report = IsBreadthFirstOutcome p n b kept report.outcome

-- its events are those of the arrivals, and the steps are as many
abbrev pub ReportsArrivals : PlainProblem → ℕ → Bool → ℕ → List KeptPair → ℕ → Report → Type 0
ReportsArrivals p n watch from kept steps report = HasReported p n watch from kept report.events steps report.outcome

-- with a plan or spent, its last event kept the last pair, whose path is the plan
abbrev pub EndsRightly : Bool → List KeptPair → Report → Type 0
EndsRightly watch kept report = EndsWithPath watch kept report.events report.outcome
