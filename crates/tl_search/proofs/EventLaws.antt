-- What true events say of kept pairs, and of pruned branches.
use Rattle.std.proofs.Common.{◌≡◌, ◌≢◌, ◌≤◌, ◌<◌, ℕ, suc, List, [], ◌∷◌, ◌++◌, length, slice_get, Some, refl, sym, ap, ◌∙◌, subst, arith}
use Rattle.std.proofs.Common.{inl, inr}
use Rattle.std.proofs.lemmas.Option.{slice_get_within}
use native.Mathlib.Decide.{dec_lt}
use Rattle.tl_syntax.specs.declared.action.Action.{Action}
use Rattle.tl_terms.specs.Problem.{PlainProblem}
use Rattle.tl_terms.specs.Pairs.{Pair, pair_of, residual}
use Rattle.tl_terms.proofs.PlanLaws.{pruned-right}
use Rattle.tl_syntax.specs.Trees.{falsum}
use Rattle.tl_search.proofs.RangeLaws.{has-states}
use Rattle.tl_search.proofs.PathLaws.{pair-onward}
use Rattle.tl_search.specs.Kept.{AreKept}
use Rattle.tl_search.specs.PairGraph.{next_pair, pair_graph}
use Rattle.tl_search.specs.KeptPairs.{KeptPair}
use Rattle.tl_search.proofs.ListLaws.{get-new, get-old, get-one}
use Rattle.tl_search.specs.declared.arrival.Arrival.{Arrival}
use Rattle.tl_search.specs.declared.arrival.Arrival.TheVariants as arrival
use Rattle.tl_search.specs.declared.event.Event.{Event}
use Rattle.tl_search.specs.declared.event.Event.TheVariants as event
use Rattle.tl_search.specs.Arrivals.{Arrives}
use Rattle.tl_search.specs.Events.{event_of}
use Rattle.tl_search.specs.Ends.{kept_number}
use Rattle.tl_search.specs.LawsEvents.{IsKeptByEvent}
use Rattle.tl_search.proofs.WalkLaws.{length-snoc}
use Rattle.tl_search.specs.TrueEvents.{IsTrueEvent, AreTrueEvents}
use Rattle.tl_search.specs.PrunedRightly.{IsPrunedRightly, ArePrunedRightly}

-- events are added at the end
pub events-snoc : (p : PlainProblem) (old : List KeptPair) (es : List Event) (mid : List KeptPair) (e : Event) (new : List KeptPair) →
    AreTrueEvents p old es mid → IsTrueEvent p mid e new → AreTrueEvents p old (es ++ e ∷ []) new
events-snoc p old [] mid e new h t = (new, subst (λ xs. IsTrueEvent p xs e new) (sym h) t, refl)
events-snoc p old (f ∷ es) mid e new h t = (h.0, h.1, events-snoc p h.0 es mid e new h.2 t)

-- the pair that is kept last differs from those before it
pub last-differs : (p : PlainProblem) (old new : List KeptPair) (y : KeptPair) → AreKept (pair_graph p) new → new ≡ old ++ y ∷ [] →
    (i : ℕ) (z : KeptPair) → slice_get old i ≡ Some z → z.node ≢ y.node
last-differs p old new y all is i z e same =
    let now : slice_get new i ≡ Some z = subst (λ xs. slice_get xs i ≡ Some z) (sym is) (get-old old (y ∷ []) i z e) in
    let last : slice_get new (length old) ≡ Some y = subst (λ xs. slice_get xs (length old) ≡ Some y) (sym is) (get-new old y) in
    let one : i ≡ length old = all.differ i (length old) z y now last same in
    let q : i < length old = slice_get_within old i z e in
    let b : ⊥ = omega arith in b

-- the event of an arrival after an action is true
module _ (p : PlainProblem) (old new : List KeptPair) (at : ℕ) (pair : KeptPair) (is_pair : slice_get old at ≡ Some pair) (a : Action) where
  pub arrives-truly : AreKept (pair_graph p) new → (r : Arrival) → Arrives old new (next_pair p pair.node a) (pair.path ++ a ∷ []) r →
      IsTrueEvent p old (event_of at a r) new
  arrives-truly all arrival.Pruned h = (pair, h.1.0, is_pair, h.1.1, h.1.2, h.0)
  arrives-truly all (arrival.Seen k) h = (pair, h.1.0, is_pair, h.1.2, h.1.1, h.0)
  arrives-truly all (arrival.Fresh k) h = (
    pair,
    h.1.0,
    is_pair,
    h.1.1,
    h.1.2,
    last-differs p old new (record { node = h.1.0; path = pair.path ++ a ∷ [] }) all h.1.3,
    h.0,
    h.1.3,
  )

-- ---- pruned branches

event-grows : (p : PlainProblem) (old : List KeptPair) (e : Event) (new : List KeptPair) → IsTrueEvent p old e new →
    (i : ℕ) (x : KeptPair) → slice_get old i ≡ Some x → slice_get new i ≡ Some x
event-grows p old event.RootKept new t i x e = let f : slice_get [] i ≡ Some x = subst (λ xs. slice_get xs i ≡ Some x) t.3 e in let b : ⊥ =
    cc in absurd b
event-grows p old event.RootPruned new t i x e = let f : slice_get [] i ≡ Some x = subst (λ xs. slice_get xs i ≡ Some x) t.3 e in
    let b : ⊥ = cc in absurd b
event-grows p old (event.Kept j a k) new t i x e = subst (λ xs. slice_get xs i ≡ Some x) (sym t.7)
    (get-old old (record { node = t.1; path = t.0.path ++ a ∷ [] } ∷ []) i x e)
event-grows p old (event.Seen j a k) new t i x e = subst (λ xs. slice_get xs i ≡ Some x) (sym t.5) e
event-grows p old (event.Pruned j a) new t i x e = subst (λ xs. slice_get xs i ≡ Some x) (sym t.5) e

events-grow : (p : PlainProblem) (old : List KeptPair) (es : List Event) (new : List KeptPair) → AreTrueEvents p old es new →
    (i : ℕ) (x : KeptPair) → slice_get old i ≡ Some x → slice_get new i ≡ Some x
events-grow p old [] new t i x e = subst (λ xs. slice_get xs i ≡ Some x) t e
events-grow p old (f ∷ es) new t i x e = events-grow p t.0 es new t.2 i x (event-grows p old f t.0 t.1 i x e)

pruned-branch : (p : PlainProblem) (path : List Action) (y : Pair) → pair_of p path ≡ Some y → y.formula ≡ falsum → IsPrunedRightly p path
pruned-branch p path y e f =
    let t = has-states p path y e in
    let g : residual p (t.from ∷ t.after) p.control ≡ falsum = sym t.formula ∙ f in
    record {
      worlds = t.from ∷ t.after;
      executes = t.executes;
      false_residual = g;
      begins_none = λ s b h.
          pruned-right p s (t.from ∷ t.after) p.control g b h;
    }

-- branches that true events tell to be pruned are so rightly
pub events-prune-rightly : (p : PlainProblem) (old : List KeptPair) (es : List Event) (new : List KeptPair) → AreTrueEvents p old es new →
    ArePrunedRightly p new es
events-prune-rightly p old [] new t j a x path m e q = absurd m
events-prune-rightly p old (f ∷ es) new t j a x path m e q = elim m [
  | inl same ↦ here (subst (λ g. IsTrueEvent p old g t.0) same t.1)
  | inr later ↦ events-prune-rightly p t.0 es new t.2 j a x path later e q
]
  where
    here : IsTrueEvent p old (event.Pruned j a) t.0 → IsPrunedRightly p (path ++ a ∷ [])
    here u =
        let now : slice_get new j ≡ Some u.0 = events-grow p old (f ∷ es) new t j u.0 u.2 in
        let pair : x ≡ u.0 = get-one new j x u.0 e now in
        pruned-branch p (path ++ a ∷ []) u.1 (pair-onward p path a u.0.node (q ∙ ap (λ (z : KeptPair). Some z.node) pair) ∙ u.3) u.4

-- ---- the event that keeps a pair

-- the event that brought one pair more keeps that pair
event-keeps : (p : PlainProblem) (old : List KeptPair) (e : Event) (new : List KeptPair) (k : ℕ) → IsTrueEvent p old e new →
    length old ≤ k → k < length new → kept_number e ≡ Some k
event-keeps p old event.RootKept new k t h l = let n : length new ≡ 1 = ap length t.4 in ap (λ i. Some i) (let q : 0 ≡ k = omega arith in q)
event-keeps p old event.RootPruned new k t h l = let n : length new ≡ 0 = ap length t.4 in let b : ⊥ = omega arith in absurd b
event-keeps p old (event.Kept j a i) new k t h l =
    let n : length new ≡ suc (length old) = ap length t.7 ∙ length-snoc old (record { node = t.1; path = t.0.path ++ a ∷ [] }) in
    let m : i ≡ length old = t.6 in
    ap (λ i. Some i) (let q : i ≡ k = omega arith in q)
event-keeps p old (event.Seen j a i) new k t h l = let n : length new ≡ length old = ap length t.5 in let b : ⊥ = omega arith in absurd b
event-keeps p old (event.Pruned j a) new k t h l = let n : length new ≡ length old = ap length t.5 in let b : ⊥ = omega arith in absurd b

-- each pair that is kept between two lists has the event that kept it
events-keep : (p : PlainProblem) (old : List KeptPair) (es : List Event) (new : List KeptPair) (k : ℕ) → length old ≤ k → k < length new →
    AreTrueEvents p old es new → IsKeptByEvent es k
events-keep p old [] new k h l t = let n : length old ≡ length new = ap length t in let b : ⊥ = omega arith in absurd b
events-keep p old (e ∷ es) new k h l t = elim (dec_lt k (length t.0)) [
  | yes s ↦ record { front = []; keeps = e; rest = es; splits = refl; number = event-keeps p old e t.0 k t.1 h s; unseen = λ j a m. m }
  | no s ↦ later (events-keep p t.0 es new k (omega arith) l t.2)
]
  where
    is_seen : (j : ℕ) (a : Action) → e ≡ event.Seen j a k → ⊥
    is_seen j a q =
        let u : IsTrueEvent p old (event.Seen j a k) t.0 = subst (λ (f : Event). IsTrueEvent p old f t.0) q t.1 in
        let s : k < length old = slice_get_within old k u.1 u.4 in
        omega arith

    later : IsKeptByEvent es k → IsKeptByEvent (e ∷ es) k
    later r = record {
      front = e ∷ r.front;
      keeps = r.keeps;
      rest = r.rest;
      splits = ap (λ (fs : List Event). e ∷ fs) r.splits;
      number = r.number;
      unseen = λ j a m. elim m [ inl q ↦ is_seen j a q | inr m ↦ r.unseen j a m ];
    }

pub kept-by-event : (p : PlainProblem) (events : List Event) (kept : List KeptPair) (k : ℕ) → k < length kept →
    AreTrueEvents p [] events kept → IsKeptByEvent events k
kept-by-event p events kept k l t = events-keep p [] events kept k (omega arith) l t
