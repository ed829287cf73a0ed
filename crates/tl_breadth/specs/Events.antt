-- The order in which a breadth-first search has its arrivals, and what it reports of them.
use Rattle.std.specs.Prelude.{◌≡◌, ◌<◌, ◌+◌, ◌⊎◌, ℕ, suc, List, [], ◌∷◌, ◌++◌, length, take, slice_get, Bool, true, Option, Some, None}
use Rattle.std.specs.Prelude.{IsTrue, is_some}
use Rattle.std.specs.declared.cmp.Ordering.TheVariants.{Less}
use Rattle.tl_syntax.specs.declared.action.Action.{Action}
use Rattle.tl_syntax.specs.Lists.{Each, Among}
use Rattle.tl_terms.specs.Problem.{PlainProblem}
use Rattle.tl_terms.specs.Orders.{action_cmp}
use Rattle.tl_terms.specs.Step.{step}
use Rattle.tl_breadth.specs.Searched.{IsTried}
use Rattle.tl_breadth.specs.declared.levels.BreadthFirst.{BreadthFirst}
use Rattle.tl_search.specs.KeptPairs.{KeptPair}
use Rattle.tl_search.specs.ListedActions.{ListsActions}
use Rattle.tl_search.specs.History.{IsHistory}
use Rattle.tl_search.specs.Ends.{Ends}
use Rattle.tl_search.specs.declared.outcome.Outcome.{Outcome}
use Rattle.tl_search.specs.declared.outcome.Outcome.TheVariants as outcome
use Rattle.tl_search.specs.declared.event.Event.{Event}
use Rattle.tl_search.specs.declared.event.Event.TheVariants as event

-- an action of the pair of a number
abbrev pub Arrived : Type 0
Arrived = ℕ × Action

-- from a pair of a smaller number, or from the same by an action before
abbrev pub IsEarlier : Arrived → Arrived → Type 0
IsEarlier r s = (r.0 < s.0) ⊎ ((r.0 ≡ s.0) × (action_cmp r.1 s.1 ≡ Less))

-- each is earlier than all after it
abbrev pub AreInTurn : List Arrived → Type 0
AreInTurn [] = Unit {0}
AreInTurn (r ∷ rs) = Each (λ s. IsEarlier r s) rs × AreInTurn rs

-- an executable action of a kept pair whose path has fewer than n actions
abbrev pub IsArrival : PlainProblem → ℕ → List KeptPair → Arrived → Type 0
IsArrival p n kept r = (x : KeptPair) × (slice_get kept r.0 ≡ Some x) × (length x.path < n) × IsTrue (is_some (step p x.node.world r.1))

-- these arrivals are the first of all arrivals of the kept pairs, in the order of pairs and of
-- actions
pub record AreFirstArrivals (p : PlainProblem) (n : ℕ) (kept : List KeptPair) (rs : List Arrived) : Type 0 where
  pub in_turn : AreInTurn rs
  pub right : (r : Arrived) → Among r rs → IsArrival p n kept r
  pub none_left_out : (r s : Arrived) → IsArrival p n kept r → Among s rs → IsEarlier r s → Among r rs

-- they are all of them
abbrev pub AreAllArrivals : PlainProblem → ℕ → List KeptPair → List Arrived → Type 0
AreAllArrivals p n kept rs = (r : Arrived) → IsArrival p n kept r → Among r rs

-- the arrival that an event reports
abbrev pub arrived_in : Event → List Arrived
arrived_in event.RootKept = []
arrived_in event.RootPruned = []
arrived_in (event.Kept j a k) = (j, a) ∷ []
arrived_in (event.Seen j a k) = (j, a) ∷ []
arrived_in (event.Pruned j a) = (j, a) ∷ []

-- the arrivals that the events report
abbrev pub arrivals_of : List Event → List Arrived
arrivals_of [] = []
arrivals_of (e ∷ es) = arrived_in e ++ arrivals_of es

-- one event more than the arrivals that the events report: the root's, which is told once
abbrev pub TellsRootOnce : List Event → Type 0
TellsRootOnce events = length events ≡ suc (length (arrivals_of events))

-- as many steps as arrivals; the arrivals are the first ones and those of what was tried; where
-- they are watched, the events are true and report just these after the root's
pub record IsReported (p : PlainProblem) (n : ℕ) (watch : Bool) (from : ℕ) (kept : List KeptPair) (done : ℕ) (tried : List Action)
    (events : List Event) (steps : ℕ) : Type 0 where
  pub arrived : List Arrived
  pub first : AreFirstArrivals p n kept arrived
  pub upto : (r : Arrived) → Among r arrived → IsTried done tried r.0 r.1
  pub all : (r : Arrived) → IsArrival p n kept r → IsTried done tried r.0 r.1 → Among r arrived
  pub ticks : steps ≡ from + length arrived
  pub shown : watch ≡ true → arrivals_of events ≡ arrived
  pub root_once : watch ≡ true → TellsRootOnce events
  pub history : IsHistory p watch kept events

-- it is so after some part of the search
abbrev pub IsReportedSomewhere : PlainProblem → ℕ → Bool → ℕ → List KeptPair → List Event → ℕ → Type 0
IsReportedSomewhere p n watch from kept events steps = (done : ℕ) × (tried : List Action) ×
    IsReported p n watch from kept done tried events steps

-- as many steps as first arrivals of the kept pairs: all that an answer has, also where it is a
-- fault
pub record IsTicked (p : PlainProblem) (n from : ℕ) (kept : List KeptPair) (steps : ℕ) : Type 0 where
  pub arrived : List Arrived
  pub first : AreFirstArrivals p n kept arrived
  pub ticks : steps ≡ from + length arrived

-- the step by the action of the pair, the k-th of any listed ones, is one of an arrival
abbrev pub TicksArrival : PlainProblem → ℕ → Bool → List KeptPair → List KeptPair → ℕ → Action → List Event → ℕ → ℕ → Type 0
TicksArrival p n watch old new at a es steps more = (from k : ℕ) (pair : KeptPair) (listed : List Action) → slice_get old at ≡ Some pair →
    length pair.path < n → ListsActions p pair.node.world listed → slice_get listed k ≡ Some a →
    IsReported p n watch from old at (take k listed) es steps → IsTicked p n from new more

-- so it is in the search
abbrev pub TicksArrivalIn : BreadthFirst → PlainProblem → List KeptPair → List KeptPair → ℕ → Action → List Event → ℕ → ℕ → Type 0
TicksArrivalIn s p old new at a es steps more = TicksArrival p s.within s.watch old new at a es steps more

-- so are the steps between two pairs' turns
abbrev pub Ticks : PlainProblem → ℕ → Bool → List KeptPair → List KeptPair → ℕ → List Event → ℕ → ℕ → Type 0
Ticks p n watch old new at es steps more = (from : ℕ) → IsReported p n watch from old at [] es steps → IsTicked p n from new more

-- the arrival by the action of the pair, the k-th of any listed ones, is reported
abbrev pub ReportsArrival : PlainProblem → ℕ → Bool → List KeptPair → List KeptPair → ℕ → Action → List Event → List Event → ℕ → ℕ → Type 0
ReportsArrival p n watch old new at a es later steps more = (from k : ℕ) (pair : KeptPair) (listed : List Action) → slice_get old at ≡
    Some pair → length pair.path < n → ListsActions p pair.node.world listed → slice_get listed k ≡ Some a →
    IsReported p n watch from old at (take k listed) es steps → IsReported p n watch from new at (take (k + 1) listed) later more

-- so it is in the search
abbrev pub ReportsArrivalIn : BreadthFirst → PlainProblem → List KeptPair → List KeptPair → ℕ → Action → List Event → List Event → ℕ → ℕ →
    Type 0
ReportsArrivalIn s p old new at a es later steps more = ReportsArrival p s.within s.watch old new at a es later steps more

-- what happened between two pairs' turns is reported; where it ended the search, up to somewhere
abbrev pub ReportsTurn : PlainProblem → ℕ → Bool → List KeptPair → List KeptPair → ℕ → ℕ → List Event → List Event → ℕ → ℕ →
    Option Outcome → Type 0
ReportsTurn p n watch old new at next es later steps more None = (from : ℕ) → IsReported p n watch from old at [] es steps →
    IsReported p n watch from new next [] later more
ReportsTurn p n watch old new at next es later steps more (Some o) = (from : ℕ) → IsReported p n watch from old at [] es steps →
    IsReportedSomewhere p n watch from new later more

-- so it is in the search
abbrev pub ReportsTurnIn : BreadthFirst → PlainProblem → List KeptPair → List KeptPair → ℕ → ℕ → List Event → List Event → ℕ → ℕ →
    Option Outcome → Type 0
ReportsTurnIn s p old new at next es later steps more o = ReportsTurn p s.within s.watch old new at next es later steps more o

-- the arrivals and events of a whole search: where there is no plan, none is left out
abbrev pub HasReported : PlainProblem → ℕ → Bool → ℕ → List KeptPair → List Event → ℕ → Outcome → Type 0
HasReported p n watch from kept events steps outcome.NoPlan = (done : ℕ) × (r : IsReported p n watch from kept done [] events steps) ×
    AreAllArrivals p n kept r.arrived
HasReported p n watch from kept events steps outcome.NoneWithin = (done : ℕ) × (r : IsReported p n watch from kept done [] events steps) ×
    AreAllArrivals p n kept r.arrived
HasReported p n watch from kept events steps o = IsReportedSomewhere p n watch from kept events steps

-- so it is of the search
abbrev pub ReportsSearch : BreadthFirst → PlainProblem → ℕ → List KeptPair → List Event → ℕ → Outcome → Type 0
ReportsSearch s p from kept events steps o = HasReported p s.within s.watch from kept events steps o

-- where the arrivals and events before the first pair's turn are reported, so are those of the
-- whole search
abbrev pub ReportsRest : BreadthFirst → PlainProblem → List KeptPair → List KeptPair → List Event → List Event → ℕ → ℕ → Outcome → Type 0
ReportsRest s p old new es later steps more o = (from : ℕ) → IsReported p s.within s.watch from old 0 [] es steps →
    HasReported p s.within s.watch from new later more o

-- the plan is the path of the last of the kept pairs
pub record IsLastPath (kept : List KeptPair) (plan : List Action) : Type 0 where
  pub number : ℕ
  pub pair : KeptPair
  pub is_pair : slice_get kept number ≡ Some pair
  pub is_last : length kept ≡ number + 1
  pub is_path : plan ≡ pair.path

-- a plan is the path of the pair that was kept last
abbrev pub EndsAtLast : List KeptPair → Option Outcome → Type 0
EndsAtLast kept (Some (outcome.Plan plan)) = IsLastPath kept plan
EndsAtLast kept _ = Unit {0}

-- with a plan or spent, the last event is the one that kept the last pair, whose path is the plan
abbrev pub EndsWithPath : Bool → List KeptPair → List Event → Outcome → Type 0
EndsWithPath watch kept events o = EndsAtLast kept (Some o) × Ends watch kept events o

-- and so, where the search ends now
abbrev pub EndsWithPathIfAny : Bool → List KeptPair → List Event → Option Outcome → Type 0
EndsWithPathIfAny watch kept events None = Unit {0}
EndsWithPathIfAny watch kept events (Some o) = EndsWithPath watch kept events o

-- so it is in the search
abbrev pub EndsIfAny : BreadthFirst → List KeptPair → List Event → Option Outcome → Type 0
EndsIfAny s kept events o = EndsWithPathIfAny s.watch kept events o
