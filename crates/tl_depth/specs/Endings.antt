-- The event that ends a search.
use Rattle.std.specs.Prelude.{◌≡◌, List, Bool, true, Option}
use Rattle.tl_search.specs.KeptPairs.{KeptPair}
use Rattle.tl_search.specs.Ends.{EndsByKeeping, Ends, EndsIfAny}
use Rattle.tl_search.specs.declared.arrival.Arrival.{Arrival}
use Rattle.tl_search.specs.declared.arrival.Arrival.TheVariants as arrival
use Rattle.tl_search.specs.declared.event.Event.{Event}
use Rattle.tl_search.specs.declared.outcome.Outcome.{Outcome}

-- where a pair is kept now, the last event says so
abbrev pub KeepsLast : Bool → List KeptPair → List Event → Arrival → Type 0
KeepsLast watch kept events (arrival.Fresh k) = watch ≡ true → EndsByKeeping kept events
KeepsLast watch kept events _ = Unit {0}

-- where the last event says so, it is the event that ends the search, if the search ends now
abbrev pub EndsBy : Bool → List KeptPair → List Event → Arrival → Option Outcome → Type 0
EndsBy watch kept events arrival o = KeepsLast watch kept events arrival → EndsIfAny watch kept events o

-- no pair is kept last
abbrev pub EndsUnkept : Outcome → Type 0
EndsUnkept o = (watch : Bool) (kept : List KeptPair) (events : List Event) → Ends watch kept events o
