-- The events of a whole depth-first search, which are one list.
use Rattle.std.specs.Prelude.{◌≡◌, ◌+◌, ℕ, List, [], length, true, false}
use Rattle.tl_terms.specs.Problem.{PlainProblem}
use Rattle.tl_search.specs.Ends.{EndsByKeeping}
use Rattle.tl_search.specs.KeptPairs.{KeptPair, pairs_of}
use Rattle.tl_search.specs.TrueEvents.{AreTrueEvents}
use Rattle.tl_search.specs.declared.event.Event.{Event}
use Rattle.tl_search.specs.declared.outcome.Outcome.{Outcome}
use Rattle.tl_search.specs.declared.outcome.Outcome.TheVariants as outcome
use Rattle.tl_depth.specs.Entering.{AreInDepth}
use Rattle.tl_depth.specs.Outcomes.{HasLastPair}

-- the order of the events, and where they end: with the pair of the plan, with the one that is too
-- many, or where no action is left
abbrev pub StopsAt : PlainProblem → ℕ → ℕ → List KeptPair → List Event → Outcome → Type 0
StopsAt p n b kept events (outcome.Plan plan) = AreInDepth p n (pairs_of kept) true events × EndsByKeeping kept events ×
    HasLastPair p (pairs_of kept) plan
StopsAt p n b kept events outcome.NoPlan = AreInDepth p n (pairs_of kept) false events
StopsAt p n b kept events outcome.NoneWithin = AreInDepth p n (pairs_of kept) false events
StopsAt p n b kept events outcome.Spent = AreInDepth p n (pairs_of kept) true events × EndsByKeeping kept events × (length kept ≡ b + 1)

-- the events are true, and in the order of a depth-first search up to where they end
pub record AreDepthFirst (p : PlainProblem) (n b : ℕ) (kept : List KeptPair) (events : List Event) (o : Outcome) : Type 0 where
  pub told : AreTrueEvents p [] events kept
  pub stops : StopsAt p n b kept events o

-- two such lists with one outcome are the same, and so are the pairs that they keep
abbrev pub DepthFirstEventsAreOne : Type 0
DepthFirstEventsAreOne = (p : PlainProblem) (n b : ℕ) (kept others : List KeptPair) (events told : List Event) (o : Outcome)
    → AreDepthFirst p n b kept events o → AreDepthFirst p n b others told o → (events ≡ told) × (kept ≡ others)
