-- The events of a whole breadth-first search, which are one list.
use Rattle.std.specs.Prelude.{◌≡◌, ◌+◌, ℕ, List, [], length, slice_get, Some}
use Rattle.tl_syntax.specs.declared.action.Action.{Action}
use Rattle.tl_terms.specs.Pairs.{pair_of}
use Rattle.tl_terms.specs.Problem.{PlainProblem}
use Rattle.tl_search.specs.Ends.{EndsByKeeping}
use Rattle.tl_search.specs.KeptPairs.{KeptPair}
use Rattle.tl_search.specs.TrueEvents.{AreTrueEvents}
use Rattle.tl_search.specs.declared.event.Event.{Event}
use Rattle.tl_search.specs.declared.outcome.Outcome.{Outcome}
use Rattle.tl_search.specs.declared.outcome.Outcome.TheVariants as outcome
use Rattle.tl_breadth.specs.Events.{AreFirstArrivals, AreAllArrivals, arrivals_of, TellsRootOnce}

-- the last of the kept pairs is the plan's
abbrev pub KeepsLast : PlainProblem → List KeptPair → List Action → Type 0
KeepsLast p kept plan = (k : ℕ) × (x : KeptPair) × (length kept ≡ k + 1) × (slice_get kept k ≡ Some x) × (pair_of p plan ≡ Some x.node)

-- where the events end: where no arrival is left, with the pair of the plan, or with the one that
-- is too many
abbrev pub StopsAt : PlainProblem → ℕ → ℕ → List KeptPair → List Event → Outcome → Type 0
StopsAt p n b kept events (outcome.Plan plan) = EndsByKeeping kept events × KeepsLast p kept plan
StopsAt p n b kept events outcome.NoPlan = AreAllArrivals p n kept (arrivals_of events)
StopsAt p n b kept events outcome.NoneWithin = AreAllArrivals p n kept (arrivals_of events)
StopsAt p n b kept events outcome.Spent = EndsByKeeping kept events × (length kept ≡ b + 1)

-- the events are true, and tell of the root and then of the first arrivals, up to where they end
pub record AreInBreadth (p : PlainProblem) (n b : ℕ) (kept : List KeptPair) (events : List Event) (o : Outcome) : Type 0 where
  pub told : AreTrueEvents p [] events kept
  pub root_once : TellsRootOnce events
  pub first : AreFirstArrivals p n kept (arrivals_of events)
  pub stops : StopsAt p n b kept events o

-- two such lists with one outcome are the same, and so are the pairs that they keep
abbrev pub BreadthFirstEventsAreOne : Type 0
BreadthFirstEventsAreOne = (p : PlainProblem) (n b : ℕ) (kept others : List KeptPair) (events told : List Event) (o : Outcome)
    → AreInBreadth p n b kept events o → AreInBreadth p n b others told o → (events ≡ told) × (kept ≡ others)
