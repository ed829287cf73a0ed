-- What events say of a search from its start on.
use Rattle.std.proofs.Common.{◌≡◌, ◌<◌, ◌+◌, ℕ, suc, List, [], ◌∷◌, ◌++◌, length, Bool, true, Some, refl, sym, ap, ◌∙◌, subst, arith}
use Rattle.std.specs.List.{slice_get}
use Rattle.tl_syntax.specs.declared.action.Action.{Action}
use Rattle.tl_terms.specs.Pairs.{pair_of}
use Rattle.tl_terms.specs.Problem.{PlainProblem}
use Rattle.tl_search.specs.Kept.{AreKept}
use Rattle.tl_search.specs.KeptPairs.{KeptPair}
use Rattle.tl_search.specs.PairGraph.{next_pair, pair_graph}
use Rattle.tl_search.specs.Arrivals.{Arrives}
use Rattle.tl_search.specs.Events.{event_of, events_after}
use Rattle.tl_search.specs.TrueEvents.{AreTrueEvents}
use Rattle.tl_search.specs.PrunedRightly.{ArePrunedRightly}
use Rattle.tl_search.specs.History.{IsHistory, BeginsAtRoot}
use Rattle.tl_search.specs.Ends.{EndsByKeeping}
use Rattle.tl_search.specs.declared.arrival.Arrival.{Arrival}
use Rattle.tl_search.specs.declared.arrival.Arrival.TheVariants as arrival
use Rattle.tl_search.specs.declared.event.Event.{Event}
use Rattle.tl_search.specs.declared.event.Event.TheVariants as event
use Rattle.tl_search.proofs.WalkLaws.{length-snoc}
use Rattle.tl_search.proofs.EventLaws.{events-snoc, arrives-truly, events-prune-rightly}

-- the root is kept
pub history-kept : (p : PlainProblem) (watch : Bool) (old new : List KeptPair) (k : ℕ) (later : List Event) → old ≡ [] →
    Arrives old new (pair_of p []) [] (arrival.Fresh k) → later ≡ events_after watch [] event.RootKept → IsHistory p watch new later
history-kept p watch old new k later e h l = record {
  told = λ w. subst (λ es. AreTrueEvents p [] es new) (sym (is w)) (
    new,
    (h.1.0, h.1.1, h.1.2, refl, h.1.3 ∙ ap (λ xs. xs ++ record { node = h.1.0; path = [] } ∷ []) e),
    refl,
  );
  some = λ w. subst (λ es. 0 < length es) (sym (is w)) (omega arith);
  silent = λ w. l ∙ ap (λ b. events_after b [] event.RootKept) w;
}
  where
    is : watch ≡ true → later ≡ event.RootKept ∷ []
    is w = l ∙ ap (λ b. events_after b [] event.RootKept) w

-- the root is pruned
pub history-pruned : (p : PlainProblem) (watch : Bool) (old new : List KeptPair) (later : List Event) → old ≡ [] →
    Arrives old new (pair_of p []) [] arrival.Pruned → later ≡ events_after watch [] event.RootPruned → IsHistory p watch new later
history-pruned p watch old new later e h l = record {
  told = λ w. subst (λ es. AreTrueEvents p [] es new) (sym (is w)) ([], (h.1.0, h.1.1, h.1.2, refl, refl), sym (h.0 ∙ e));
  some = λ w. subst (λ es. 0 < length es) (sym (is w)) (omega arith);
  silent = λ w. l ∙ ap (λ b. events_after b [] event.RootPruned) w;
}
  where
    is : watch ≡ true → later ≡ event.RootPruned ∷ []
    is w = l ∙ ap (λ b. events_after b [] event.RootPruned) w

-- an action of a kept pair is tried
pub history-more : (p : PlainProblem) (watch : Bool) (old new : List KeptPair) (at : ℕ) (pair : KeptPair) (a : Action) (r : Arrival)
    (events later : List Event) → IsHistory p watch old events → slice_get old at ≡ Some pair →
    Arrives old new (next_pair p pair.node a) (pair.path ++ a ∷ []) r → AreKept (pair_graph p) new → later ≡
    events_after watch events (event_of at a r) → IsHistory p watch new later
history-more p watch old new at pair a r events later s is_pair h kept l = record {
  told = λ w. subst (λ es. AreTrueEvents p [] es new) (sym (is w)) (events-snoc p [] events old (event_of at a r) new (s.told w)
      (arrives-truly p old new at pair is_pair a kept r h));
  some = λ w. omega (arith, ap length (is w), length-snoc events (event_of at a r));
  silent = λ w. l ∙ (ap (λ b. events_after b events (event_of at a r)) w ∙ s.silent w);
}
  where
    is : watch ≡ true → later ≡ events ++ event_of at a r ∷ []
    is w = l ∙ ap (λ b. events_after b events (event_of at a r)) w

-- the first event is the root's
pub events-begin : (p : PlainProblem) (events : List Event) (kept : List KeptPair) → 0 < length events → AreTrueEvents p [] events kept →
    BeginsAtRoot p events
events-begin p [] kept l t = absurd (omega arith)
events-begin p (event.RootKept ∷ rest) kept l t = record {
  root = t.1.0;
  is_root = t.1.1;
  first = event.RootKept;
  rest = rest;
  begins =
      refl;
  kept = λ f. refl;
  pruned = λ f. absurd (t.1.2 f);
}
events-begin p (event.RootPruned ∷ rest) kept l t = record {
  root = t.1.0;
  is_root = t.1.1;
  first = event.RootPruned;
  rest = rest;
  begins =
      refl;
  kept = λ f. absurd (f t.1.2);
  pruned = λ f. refl;
}
events-begin p (event.Kept j a k ∷ rest) kept l t = absurd (let q : slice_get [] j ≡ Some t.1.0 = t.1.2 in let b : ⊥ = cc in b)
events-begin p (event.Seen j a k ∷ rest) kept l t = absurd (let q : slice_get [] j ≡ Some t.1.0 = t.1.2 in let b : ⊥ = cc in b)
events-begin p (event.Pruned j a ∷ rest) kept l t = absurd (let q : slice_get [] j ≡ Some t.1.0 = t.1.2 in let b : ⊥ = cc in b)

pub history-begins : (p : PlainProblem) (watch : Bool) (kept : List KeptPair) (events : List Event) → IsHistory p watch kept events →
    watch ≡ true → BeginsAtRoot p events
history-begins p watch kept events s w = events-begin p events kept (s.some w) (s.told w)

-- the branches that are told to be pruned are so rightly
pub history-prunes-rightly : (p : PlainProblem) (watch : Bool) (kept : List KeptPair) (events : List Event) →
    IsHistory p watch kept events → watch ≡ true → ArePrunedRightly p kept events
history-prunes-rightly p watch kept events s w = events-prune-rightly p [] events kept (s.told w)

-- ---- the last event

pub ends-by-keeping : (watch : Bool) (old kept : List KeptPair) (events later : List Event) (at : ℕ) (a : Action) (k : ℕ) (y : KeptPair) →
    k ≡ length old → kept ≡ old ++ y ∷ [] → later ≡ events_after watch events (event.Kept at a k) → watch ≡ true → EndsByKeeping kept later
ends-by-keeping watch old kept events later at a k y e f l w = record {
  front = events;
  last = event.Kept at a k;
  ends = l ∙ ap (λ b. events_after b events (event.Kept at a k)) w;
  number = k;
  keeps = refl;
  is_last = ap length f ∙ (length-snoc old y ∙ (let q : suc (length old) ≡ k + 1 = omega (arith, e) in q));
}

pub ends-at-root : (p : PlainProblem) (watch : Bool) (old kept : List KeptPair) (k : ℕ) (later : List Event) → old ≡ [] →
    Arrives old kept (pair_of p []) [] (arrival.Fresh k) → later ≡ events_after watch [] event.RootKept → watch ≡ true →
    EndsByKeeping kept later
ends-at-root p watch old kept k later e h l w = record {
  front = [];
  last = event.RootKept;
  ends = l ∙ ap (λ b. events_after b [] event.RootKept) w;
  number = 0;
  keeps = refl;
  is_last = ap length (h.1.3 ∙ ap (λ xs. xs ++ record { node = h.1.0; path = [] } ∷ []) e);
}
