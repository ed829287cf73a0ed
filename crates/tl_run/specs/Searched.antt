-- What a search ends with, as the program holds it.
use Rattle.std.specs.Prelude.{ℕ, List, ◌++◌, length, ⊤}
use Rattle.tl_line.specs.NamedActions.{ActionIsNamed}
use Rattle.tl_search.specs.KeptPairs.{KeptPair}
use Rattle.tl_search.specs.declared.fault.SearchFault.{SearchFault}
use Rattle.tl_search.specs.declared.fault.SearchFault.TheVariants as fault
use Rattle.tl_search.specs.declared.outcome.Outcome.{Outcome}
use Rattle.tl_search.specs.declared.outcome.Outcome.TheVariants as outcome
use Rattle.tl_search.specs.declared.outcome.Report.{Report}
use Rattle.tl_syntax.specs.Lists.{Each}
use Rattle.tl_syntax.specs.declared.operator.Operator.{Operator}
use Rattle.tl_syntax.specs.declared.problem.Problem.{Problem}
use Rattle.tl_terms.specs.Problem.{PlainProblem}
use Rattle.tl_text.specs.Outcomes.{HasNamedPlan, outcome_text}
use Rattle.tl_text.specs.Traces.{AreWritable, trace_text}
use Rattle.tl_run.specs.declared.search.Search.{Search}
use Rattle.tl_run.specs.Plan.{EndsPastRange}
use Rattle.tl_run.specs.Trace.{IsTrace}

-- a search ends at an operation past range by its cause; want of memory has none
abbrev pub IsSearchFault : Search → PlainProblem → SearchFault → Type 0
IsSearchFault s p (fault.Range path note) = EndsPastRange s p path note
IsSearchFault s p fault.NoMemory = ⊤

-- the actions of the path, where there is one, are of these operators and name only these names
abbrev pub HasNamedPath : List (List ℕ) → List Operator → SearchFault → Type 0
HasNamedPath names operators (fault.Range path note) = Each (ActionIsNamed names operators) path
HasNamedPath names operators fault.NoMemory = ⊤

-- a search found that there is no plan, or none within its bound
abbrev pub FindsNone : Outcome → Type 0
FindsNone (outcome.Plan plan) = ⊥
FindsNone outcome.NoPlan = ⊤
FindsNone outcome.NoneWithin = ⊤
FindsNone outcome.Spent = ⊥

-- the kept search nodes, with the events and the outcome of a report, are right of the search
abbrev pub IsTraceReport : Search → PlainProblem → List KeptPair → Report → Type 0
IsTraceReport s p kept report = IsTrace s p kept report.events report.outcome

-- the lines of a report: those of its events, and then those of its outcome
abbrev pub report_text : Problem → Search → List KeptPair → Report → List ℕ
report_text problem s kept report =
    trace_text problem.names problem.domain kept report.events ++ outcome_text problem.names problem.domain.operators s.within s.nodes
    report.outcome

-- the actions of the events and of the plan, where there is one, are those of the problem and name
-- only its names, and the numbers of the events are those of kept search nodes
pub record HasNamedLines (problem : Problem) (kept : List KeptPair) (report : Report) : Type 0 where
  pub events : AreWritable problem.names problem.domain (length kept) report.events
  pub plan : HasNamedPlan problem.names problem.domain.operators report.outcome
