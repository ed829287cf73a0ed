-- The root that is kept.
use Rattle.std.proofs.Common.{◌≡◌, List, [], ◌∷◌, ◌++◌, ℕ, Bool, true, Some, ◌∙◌, ap}
use Rattle.std.specs.List.{slice_get}
use Rattle.tl_terms.specs.Pairs.{Pair}
use Rattle.tl_terms.specs.Problem.{PlainProblem}
use Rattle.tl_search.specs.Calls.{RootArrives}
use Rattle.tl_search.specs.Ends.{EndsByKeeping}
use Rattle.tl_search.specs.Events.{events_after}
use Rattle.tl_search.specs.History.{IsHistory}
use Rattle.tl_search.specs.Kept.{AreKept}
use Rattle.tl_search.specs.KeptPairs.{KeptPair, pairs_of}
use Rattle.tl_search.specs.PairGraph.{pair_graph, unless_pruned}
use Rattle.tl_search.specs.declared.arrival.Arrival.TheVariants as arrival
use Rattle.tl_search.specs.declared.event.Event.{Event}
use Rattle.tl_search.specs.declared.event.Event.TheVariants as event
use Rattle.tl_search.proofs.HistoryLaws.{history-kept, ends-at-root}
use Rattle.tl_depth.specs.Arrivals.{ArrivesAs}
use Rattle.tl_depth.specs.PairGraph.{first_pair}
use Rattle.tl_depth.proofs.SeenPairs.{root-as-pairs}

-- the first pair is not pruned, it alone is kept, and its event is reported
pub record RootIsKept (p : PlainProblem) (watch : Bool) (kept : List KeptPair) (events : List Event) : Type 0 where
  pub pair : Pair
  pub unpruned : unless_pruned (Some (first_pair p)) ≡ Some pair
  pub alone : pairs_of kept ≡ [] ++ pair ∷ []
  pub numbered : slice_get (pairs_of kept) 0 ≡ Some pair
  pub history : IsHistory p watch kept events
  pub ends : watch ≡ true → EndsByKeeping kept events

pub root-kept : (p q : PlainProblem) (watch : Bool) (old new : List KeptPair) (k : ℕ) (before later : List Event) → old ≡ [] → before ≡ [] →
    AreKept (pair_graph q) new → RootArrives p old new (arrival.Fresh k) → later ≡ events_after watch before event.RootKept →
    RootIsKept p watch new later
root-kept p q watch old new k before later e f all h l = record {
  pair = a.1.0;
  unpruned = a.1.1;
  alone = alone;
  numbered = ap (λ xs. slice_get xs 0) alone;
  history = history-kept p watch old new k later e h told;
  ends = ends-at-root p watch old new k later e h told;
}
  where
    a : ArrivesAs (pairs_of old) (pairs_of new) (Some (first_pair p)) (arrival.Fresh k)
    a = root-as-pairs p q old new (arrival.Fresh k) all h

    alone : pairs_of new ≡ [] ++ a.1.0 ∷ []
    alone = a.1.3 ∙ ap (λ xs. pairs_of xs ++ a.1.0 ∷ []) e

    told : later ≡ events_after watch [] event.RootKept
    told = l ∙ ap (λ es. events_after watch es event.RootKept) f
