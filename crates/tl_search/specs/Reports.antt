-- What a whole report says.
use Rattle.std.specs.Prelude.{◌≡◌, ℕ, List, Bool, true, Result}
use Rattle.tl_terms.specs.Calm.{IsCalm}
use Rattle.tl_terms.specs.Problem.{PlainProblem}
use Rattle.tl_world.specs.declared.task.Task.{Task}
use Rattle.tl_search.specs.CalmAnswers.{IsPlanOrNone}
use Rattle.tl_search.specs.History.{BeginsAtRoot}
use Rattle.tl_search.specs.KeptPairs.{KeptPair}
use Rattle.tl_search.specs.NamedAnswers.{OutcomeIsNamed, EventsAreNamed}
use Rattle.tl_search.specs.PrunedRightly.{ArePrunedRightly}
use Rattle.tl_search.specs.Spent.{HasFewPairs}
use Rattle.tl_search.specs.declared.fault.SearchFault.{SearchFault}
use Rattle.tl_search.specs.declared.outcome.Report.{Report}

-- where events are watched, the first is the root's
abbrev pub BeginsRightly : PlainProblem → Bool → Report → Type 0
BeginsRightly p watch report = watch ≡ true → BeginsAtRoot p report.events

-- where they are, each branch that they tell to be pruned is so rightly
abbrev pub PrunesRightly : PlainProblem → Bool → List KeptPair → Report → Type 0
PrunesRightly p watch kept report = watch ≡ true → ArePrunedRightly p kept report.events

-- the actions of the plan, where there is one, and those of the events are named
pub record ReportIsNamed (task : Task) (report : Report) : Type 0 where
  pub plan : OutcomeIsNamed task report.outcome
  pub events : EventsAreNamed task report.events

-- where the search is calm, and at most b pairs have a distance of at most n, it answers a plan, or
-- none, or want of memory
abbrev pub AnswersWhereCalm : PlainProblem → ℕ → ℕ → Result Report SearchFault → Type 0
AnswersWhereCalm p n b result = IsCalm p n → HasFewPairs p n b → IsPlanOrNone result
