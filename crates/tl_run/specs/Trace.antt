-- What the command `trace` promises: which search nodes, events and outcome are right of a search,
-- and what its lines say.
use Rattle.std.specs.Prelude.{◌≡◌, ℕ, ◌<◌, List, [], ◌++◌, length, true, ⊤}
use Rattle.tl_syntax.specs.Lists.{Among}
use Rattle.tl_syntax.specs.declared.problem.Problem.{Problem}
use Rattle.tl_terms.specs.Problem.{PlainProblem}
use Rattle.tl_terms.specs.ProblemMeaning.{plain_problem}
use Rattle.tl_search.specs.Ends.{EndsByKeeping}
use Rattle.tl_search.specs.History.{BeginsAtRoot}
use Rattle.tl_search.specs.KeptPairs.{KeptPair, pairs_of}
use Rattle.tl_search.specs.LawsEvents.{IsKeptByEvent}
use Rattle.tl_search.specs.PrunedRightly.{IsPrunedRightly, ArePrunedRightly}
use Rattle.tl_search.specs.TrueEvents.{AreTrueEvents}
use Rattle.tl_search.specs.declared.event.Event.{Event}
use Rattle.tl_search.specs.declared.event.Event.TheVariants as event
use Rattle.tl_search.specs.declared.outcome.Outcome.{Outcome}
use Rattle.tl_search.specs.declared.outcome.Outcome.TheVariants as outcome
use Rattle.tl_breadth.specs.Events.{AreFirstArrivals, AreAllArrivals, arrivals_of, TellsRootOnce}
use Rattle.tl_breadth.specs.Outcomes.{IsBreadthFirstOutcome}
use Rattle.tl_depth.specs.Outcomes.{IsDepthFirstOutcome, IsToldOutcome, HasLastPair}
use Rattle.tl_text.specs.Traces.{trace_text}
use Rattle.tl_run.specs.declared.search.Mode.{Mode}
use Rattle.tl_run.specs.declared.search.Mode.TheVariants.{Breadth, Depth}
use Rattle.tl_run.specs.declared.search.Search.{Search}

-- the outcome and the kept search nodes that are right in a mode, one line for each: the outcomes
-- of `plan`, with at most b kept search nodes, or, where it is spent, with those b + 1; and
-- breadth-first the path of each is a shortest one
abbrev pub IsSearchIn : Mode → ℕ → ℕ → PlainProblem → List KeptPair → Outcome → Type 0
IsSearchIn Breadth n b p kept o = IsBreadthFirstOutcome p n b kept o
IsSearchIn Depth n b p kept o = IsDepthFirstOutcome p n b (pairs_of kept) o

-- breadth-first, the events tell of the first of all arrivals in their order, and where there is no
-- plan of all: an arrival is an executable action of a kept search node at less than n actions, and
-- those of one search node stand in action order
abbrev pub TellsInTurn : PlainProblem → ℕ → List KeptPair → List Event → Outcome → Type 0
TellsInTurn p n kept events outcome.NoPlan = AreFirstArrivals p n kept (arrivals_of events) × AreAllArrivals p n kept (arrivals_of events)
TellsInTurn p n kept events outcome.NoneWithin = AreFirstArrivals p n kept (arrivals_of events) ×
    AreAllArrivals p n kept (arrivals_of events)
TellsInTurn p n kept events o = AreFirstArrivals p n kept (arrivals_of events)

-- of which executable actions the events tell after the root's in a mode, and in which order, one
-- line for each
abbrev pub TellsActionsIn : Mode → ℕ → PlainProblem → List KeptPair → List Event → Outcome → Type 0
TellsActionsIn Breadth n p kept events o = TellsRootOnce events × TellsInTurn p n kept events o
TellsActionsIn Depth n p kept events o = IsToldOutcome p n true (pairs_of kept) events o

-- with a plan or spent, the last event is the one that kept the last search node, and with a plan
-- this is the plan's
abbrev pub EndsWithLast : PlainProblem → List KeptPair → List Event → Outcome → Type 0
EndsWithLast p kept events (outcome.Plan plan) = EndsByKeeping kept events × HasLastPair p (pairs_of kept) plan
EndsWithLast p kept events outcome.Spent = EndsByKeeping kept events
EndsWithLast p kept events o = ⊤

-- each branch that an event tells to be pruned executes, has the residual FALSE, and begins no
-- infinite sequence of worlds on which the control formula holds: the empty branch, or any path
-- with the search node of that number, followed by the action
pub record PrunesSoundly (p : PlainProblem) (kept : List KeptPair) (events : List Event) : Type 0 where
  pub root : Among event.RootPruned events → IsPrunedRightly p []
  pub branches : ArePrunedRightly p kept events

-- the kept search nodes, the events and the outcome are right of the search: the events are true
-- one after another and tell of all kept search nodes, each is kept before it is seen again, and
-- pruned branches are so rightly
pub record IsTrace (s : Search) (p : PlainProblem) (kept : List KeptPair) (events : List Event) (o : Outcome) : Type 0 where
  pub ended : IsSearchIn s.mode s.within s.nodes p kept o
  pub told : AreTrueEvents p [] events kept
  pub begins : BeginsAtRoot p events
  pub ends : EndsWithLast p kept events o
  pub actions : TellsActionsIn s.mode s.within p kept events o
  pub unseen : (k : ℕ) → k < length kept → IsKeptByEvent events k
  pub pruned : PrunesSoundly p kept events

-- the lines are those of true events, of which each that tells of a pruned branch tells of one that
-- begins no infinite sequence of worlds that satisfies the control formula; and P holds of the
-- lines after them
pub record TellsEvents (P : List ℕ → Problem → Type 0) (text : List ℕ) (problem : Problem) : Type 0 where
  pub kept : List KeptPair
  pub events : List Event
  pub rest : List ℕ
  pub lines : text ≡ trace_text problem.names problem.domain kept events ++ rest
  pub told : AreTrueEvents (plain_problem problem) [] events kept
  pub pruned : PrunesSoundly (plain_problem problem) kept events
  pub says : P rest problem
