-- What a search's parts report.
use Rattle.std.proofs.Common.{◌≡◌, ◌<◌, ℕ, List, [], length, Bool, true, Option, Some, refl, subst}
use Rattle.std.specs.List.{slice_get}
use Rattle.tl_syntax.specs.declared.action.Action.{Action}
use Rattle.tl_terms.specs.Calm.{IsCalm}
use Rattle.tl_terms.specs.Pairs.{Pair}
use Rattle.tl_terms.specs.Problem.{PlainProblem}
use Rattle.tl_eval.specs.Notes.{operation_of}
use Rattle.tl_search.specs.Arrivals.{Arrives}
use Rattle.tl_search.specs.Ends.{EndsByKeeping}
use Rattle.tl_search.specs.Events.{event_of, events_after}
use Rattle.tl_search.specs.History.{IsHistory}
use Rattle.tl_search.specs.KeptPairs.{KeptPair, pairs_of}
use Rattle.tl_search.specs.declared.arrival.Arrival.{Arrival}
use Rattle.tl_search.specs.declared.arrival.Arrival.TheVariants as arrival
use Rattle.tl_search.specs.declared.event.Event.{Event}
use Rattle.tl_search.specs.declared.fault.SearchFault.{SearchFault}
use Rattle.tl_search.specs.declared.fault.SearchFault.TheVariants as fault
use Rattle.tl_search.specs.declared.outcome.Outcome.{Outcome}
use Rattle.tl_search.specs.declared.outcome.Outcome.TheVariants as outcome
use Rattle.tl_search.proofs.HistoryLaws.{ends-by-keeping}
use Rattle.tl_search.proofs.ListLaws.{get-inside}
use Rattle.tl_search.proofs.RangeLaws.{calm-has-no-cause}
use Rattle.tl_search.specs.Ends.{Ends, EndsIfAny}
use Rattle.tl_depth.specs.Endings.{KeepsLast}
use Rattle.tl_depth.specs.Outcomes.{IsDepthFirstFault}
use Rattle.tl_depth.proofs.SeenPairs.{number-kept}

pub keeps-last : (watch : Bool) (old new : List KeptPair) (at : ℕ) (a : Action) (o : Option Pair) (path : List Action) (r : Arrival)
    (events later : List Event) → Arrives old new o path r → later ≡ events_after watch events (event_of at a r) →
    KeepsLast watch new later r
keeps-last watch old new at a o path arrival.Pruned events later h l = tt
keeps-last watch old new at a o path (arrival.Seen k) events later h l = tt
keeps-last watch old new at a o path (arrival.Fresh k) events later h l =
    ends-by-keeping watch old new events later at a k (record { node = h.1.0; path = path }) h.0 h.1.3 l

pub ends-any : (watch : Bool) (kept : List KeptPair) (events : List Event) (o : Outcome) → (watch ≡ true → EndsByKeeping kept events) →
    Ends watch kept events o
ends-any watch kept events (outcome.Plan plan) h = h
ends-any watch kept events outcome.NoPlan h = tt
ends-any watch kept events outcome.NoneWithin h = tt
ends-any watch kept events outcome.Spent h = h

-- the pair of a number, where there is one by its pairs
pub there : (kept : List KeptPair) (at : ℕ) → at < length (pairs_of kept) → (x : KeptPair) × (slice_get kept at ≡ Some x)
there kept at l = get-inside kept at (number-kept kept at l)

-- where nothing is kept, nothing was seen
pub root-not-seen : (old new : List KeptPair) (o : Option Pair) (k : ℕ) → old ≡ [] → Arrives old new o [] (arrival.Seen k) → ⊥
root-not-seen old new o k e h = let z : slice_get [] k ≡ Some h.1.0 = subst (λ us. slice_get us k ≡ Some h.1.0) e h.1.1 in let q : ⊥ = cc in
    q

-- ---- the same elsewhere

pub as-history : (p q : PlainProblem) (watch seen : Bool) (kept more : List KeptPair) (events later : List Event) → p ≡ q → watch ≡ seen →
    kept ≡ more → events ≡ later → IsHistory p watch kept events → IsHistory q seen more later
as-history p q watch seen kept more events later e f h i s = subst (λ z. IsHistory q seen more z) i
    (subst (λ z. IsHistory q seen z events) h (subst (λ z. IsHistory q z kept events) f (subst (λ z. IsHistory z watch kept events) e s)))

pub as-ends : (watch seen : Bool) (kept more : List KeptPair) (events later : List Event) (o : Option Outcome) → watch ≡ seen → kept ≡
    more → events ≡ later → EndsIfAny watch kept events o → EndsIfAny seen more later o
as-ends watch seen kept more events later o f h i s = subst (λ z. EndsIfAny seen more z o) i
    (subst (λ z. EndsIfAny seen z events o) h (subst (λ z. EndsIfAny z kept events o) f s))

pub as-keeps : (watch seen : Bool) (kept : List KeptPair) (events : List Event) (r : Arrival) → watch ≡ seen →
    KeepsLast watch kept events r → KeepsLast seen kept events r
as-keeps watch seen kept events r f s = subst (λ z. KeepsLast z kept events r) f s

-- ---- a calm search

pub calm-fault : (p : PlainProblem) (n : ℕ) (f : SearchFault) → IsCalm p n → IsDepthFirstFault p n f → f ≡ fault.NoMemory
calm-fault p n (fault.Range path note) calm h = absurd (calm-has-no-cause p n path (operation_of note) calm h.0)
calm-fault p n fault.NoMemory calm h = refl
