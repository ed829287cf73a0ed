-- What true events say of a search.
use Rattle.std.specs.Prelude.{◌≡◌, ◌<◌, ℕ, List, [], ◌∷◌, ◌++◌, length, Some}
use Rattle.tl_syntax.specs.declared.action.Action.{Action}
use Rattle.tl_syntax.specs.Lists.{Among}
use Rattle.tl_terms.specs.Problem.{PlainProblem}
use Rattle.tl_search.specs.Ends.{kept_number}
use Rattle.tl_search.specs.History.{BeginsAtRoot}
use Rattle.tl_search.specs.KeptPairs.{KeptPair}
use Rattle.tl_search.specs.PrunedRightly.{ArePrunedRightly}
use Rattle.tl_search.specs.TrueEvents.{AreTrueEvents}
use Rattle.tl_search.specs.declared.event.Event.{Event}
use Rattle.tl_search.specs.declared.event.Event.TheVariants as event

-- the first of true events is the root's
abbrev pub EventsBeginAtRoot : Type 0
EventsBeginAtRoot = (p : PlainProblem) (events : List Event) (kept : List KeptPair) → 0 < length events → AreTrueEvents p [] events kept →
    BeginsAtRoot p events

-- branches that true events tell to be pruned are so rightly
abbrev pub EventsPruneRightly : Type 0
EventsPruneRightly = (p : PlainProblem) (events : List Event) (kept : List KeptPair) → AreTrueEvents p [] events kept →
    ArePrunedRightly p kept events

-- the event that keeps a pair comes before each event that names it as seen
pub record IsKeptByEvent (events : List Event) (k : ℕ) : Type 0 where
  pub front : List Event
  pub keeps : Event
  pub rest : List Event
  pub splits : events ≡ front ++ keeps ∷ rest
  pub number : kept_number keeps ≡ Some k
  pub unseen : (j : ℕ) (a : Action) → Among (event.Seen j a k) front → ⊥

-- each kept pair has its event
abbrev pub KeptPairsHaveEvents : Type 0
KeptPairsHaveEvents = (p : PlainProblem) (events : List Event) (kept : List KeptPair) (k : ℕ) → k < length kept →
    AreTrueEvents p [] events kept → IsKeptByEvent events k
