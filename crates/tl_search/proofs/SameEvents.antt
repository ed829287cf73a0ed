-- True events: what they keep, and which of them are the same.
use Rattle.std.proofs.Common.{◌≡◌, ◌≢◌, ◌≤◌, ◌<◌, ◌+◌, ℕ, suc, List, [], ◌∷◌, ◌++◌, length, slice_get, Some, refl, sym, ap, ◌∙◌, subst, inl}
use Rattle.std.proofs.Common.{inr, arith, length-append}
use Rattle.tl_syntax.specs.declared.action.Action.{Action}
use Rattle.tl_syntax.specs.Trees.{falsum}
use Rattle.tl_terms.specs.Pairs.{Pair}
use Rattle.tl_terms.specs.Problem.{PlainProblem}
use Rattle.tl_search.specs.Ends.{kept_number, EndsByKeeping}
use Rattle.tl_search.specs.KeptPairs.{KeptPair}
use Rattle.tl_search.specs.PairGraph.{next_pair}
use Rattle.tl_search.specs.TrueEvents.{IsTrueEvent, AreTrueEvents}
use Rattle.tl_search.specs.declared.event.Event.{Event}
use Rattle.tl_search.specs.declared.event.Event.TheVariants as event
use Rattle.tl_search.proofs.ListLaws.{get-one, get-old, get-either}
use Rattle.tl_search.proofs.WalkLaws.{length-snoc}

-- the event is of the action at the pair of the number
abbrev pub IsOf : ℕ → Action → Event → Type 0
IsOf j a event.RootKept = ⊥
IsOf j a event.RootPruned = ⊥
IsOf j a (event.Kept i b k) = (i ≡ j) × (b ≡ a)
IsOf j a (event.Seen i b k) = (i ≡ j) × (b ≡ a)
IsOf j a (event.Pruned i b) = (i ≡ j) × (b ≡ a)

-- ---- what true events keep: pairs that differ, and are not pruned

pub record AreSound (kept : List KeptPair) : Type 0 where
  pub differ : (i j : ℕ) (x y : KeptPair) → slice_get kept i ≡ Some x → slice_get kept j ≡ Some y → x.node ≡ y.node → i ≡ j
  pub unpruned : (i : ℕ) (x : KeptPair) → slice_get kept i ≡ Some x → x.node.formula ≢ falsum

pub sound-none : AreSound []
sound-none = record { differ = λ i j x y e f q. absurd (let b : ⊥ = cc in b); unpruned = λ i x e. absurd (let b : ⊥ = cc in b) }

sound-more : (kept : List KeptPair) (y : KeptPair) → AreSound kept → y.node.formula ≢ falsum →
    ((i : ℕ) (z : KeptPair) → slice_get kept i ≡ Some z → z.node ≢ y.node) → AreSound (kept ++ y ∷ [])
sound-more kept y s u fresh = record {
  differ = λ i j x z e f q. elim (get-either kept y i x e) [
    | inl a ↦ elim (get-either kept y j z f) [
      | inl b ↦ s.differ i j x z a b q
      | inr b ↦ absurd
          (fresh i x a (q ∙ ap (λ (v : KeptPair). v.node) (sym b.1)))
    ]
    | inr a ↦ elim (get-either kept y j z f) [
      | inl b ↦ absurd (fresh j z b (sym q ∙ ap (λ (v : KeptPair). v.node) (sym a.1)))
      | inr b ↦ a.0
          ∙ sym b.0
    ]
  ];
  unpruned = λ i x e. elim (get-either kept y i x e) [
    | inl a ↦ s.unpruned i x a
    | inr a ↦
        (λ q. u (ap (λ (v : KeptPair). v.node.formula) a.1 ∙ q))
  ];
}

module _ (p : PlainProblem) where
  pub sound-event : (old : List KeptPair) (e : Event) (new : List KeptPair) → IsTrueEvent p old e new → AreSound old → AreSound new
  sound-event old event.RootKept new t s = subst AreSound (sym t.4) (sound-more [] (record { node = t.0; path = [] }) sound-none t.2
      (λ i z e. absurd (let b : ⊥ = cc in b)))
  sound-event old event.RootPruned new t s = subst AreSound (sym t.4) sound-none
  sound-event old (event.Kept j a k) new t s = subst AreSound (sym t.7)
      (sound-more old (record { node = t.1; path = t.0.path ++ a ∷ [] }) s t.4 t.5)
  sound-event old (event.Seen j a k) new t s = subst AreSound (sym t.5) s
  sound-event old (event.Pruned j a) new t s = subst AreSound (sym t.5) s

  pub sound-events : (old : List KeptPair) (es : List Event) (new : List KeptPair) → AreTrueEvents p old es new → AreSound old →
      AreSound new
  sound-events old [] new t s = subst AreSound t s
  sound-events old (e ∷ es) new t s = sound-events t.0 es new t.2 (sound-event old e t.0 t.1 s)

  event-grows : (old : List KeptPair) (e : Event) (new : List KeptPair) → IsTrueEvent p old e new → (i : ℕ) (x : KeptPair) →
      slice_get old i ≡ Some x → slice_get new i ≡ Some x
  event-grows old event.RootKept new t i x e = let f : slice_get [] i ≡ Some x = subst (λ xs. slice_get xs i ≡ Some x) t.3 e in let b : ⊥ =
      cc in absurd b
  event-grows old event.RootPruned new t i x e = let f : slice_get [] i ≡ Some x = subst (λ xs. slice_get xs i ≡ Some x) t.3 e in
      let b : ⊥ = cc in absurd b
  event-grows old (event.Kept j a k) new t i x e = subst (λ xs. slice_get xs i ≡ Some x) (sym t.7)
      (get-old old (record { node = t.1; path = t.0.path ++ a ∷ [] } ∷ []) i x e)
  event-grows old (event.Seen j a k) new t i x e = subst (λ xs. slice_get xs i ≡ Some x) (sym t.5) e
  event-grows old (event.Pruned j a) new t i x e = subst (λ xs. slice_get xs i ≡ Some x) (sym t.5) e

  pub events-grow : (old : List KeptPair) (es : List Event) (new : List KeptPair) → AreTrueEvents p old es new → (i : ℕ) (x : KeptPair) →
      slice_get old i ≡ Some x → slice_get new i ≡ Some x
  events-grow old [] new t i x e = subst (λ xs. slice_get xs i ≡ Some x) t e
  events-grow old (f ∷ es) new t i x e = events-grow t.0 es new t.2 i x (event-grows old f t.0 t.1 i x e)

  event-longer : (old : List KeptPair) (e : Event) (new : List KeptPair) → IsTrueEvent p old e new → length old ≤ length new
  event-longer old event.RootKept new t = let n : length old ≡ 0 = ap length t.3 in omega (arith, n)
  event-longer old event.RootPruned new t = let n : length old ≡ 0 = ap length t.3 in omega (arith, n)
  event-longer old (event.Kept j a k) new t = let n : length new ≡ suc (length old) = ap length t.7 ∙
      length-snoc old (record { node = t.1; path = t.0.path ++ a ∷ [] }) in omega (arith, n)
  event-longer old (event.Seen j a k) new t = let n : length new ≡ length old = ap length t.5 in omega (arith, n)
  event-longer old (event.Pruned j a) new t = let n : length new ≡ length old = ap length t.5 in omega (arith, n)

  pub events-longer : (old : List KeptPair) (es : List Event) (new : List KeptPair) → AreTrueEvents p old es new → length old ≤ length new
  events-longer old [] new t = let n : length old ≡ length new = ap length t in omega (arith, n)
  events-longer old (e ∷ es) new t = let m : length old ≤ length t.0 = event-longer old e t.0 t.1 in let k : length t.0 ≤ length new =
      events-longer t.0 es new t.2 in omega (arith, m, k)

  -- ---- two true events of one action of a pair are the same

  next-same : (old : List KeptPair) (j : ℕ) (a : Action) (x u : KeptPair) (y v : Pair) → slice_get old j ≡ Some x → slice_get old j ≡
      Some u → next_pair p x.node a ≡ Some y → next_pair p u.node a ≡ Some v → y ≡ v
  next-same old j a x u y v e f g h = let q : Some y ≡ Some v = sym g ∙
      (ap (λ (z : KeptPair). next_pair p z.node a) (get-one old j x u e f) ∙ h) in cc

  -- the event is of the action at the pair of the number
  pub same-event : (old : List KeptPair) → AreSound old → (e f : Event) (j : ℕ) (a : Action) (mid nid : List KeptPair) → IsOf j a e →
      IsOf j a f → IsTrueEvent p old e mid → IsTrueEvent p old f nid → (e ≡ f) × (mid ≡ nid)
  same-event old s event.RootKept f j a mid nid q o t u = absurd q
  same-event old s event.RootPruned f j a mid nid q o t u = absurd q
  same-event old s e event.RootKept j a mid nid q o t u = absurd o
  same-event old s e event.RootPruned j a mid nid q o t u = absurd o
  same-event old s (event.Kept i b k) (event.Kept h c l) j a mid nid q o t u =
      let w = subst (λ (z : ℕ). IsTrueEvent p old (event.Kept z a k) mid) q.0
      (subst (λ (z : Action). IsTrueEvent p old (event.Kept i z k) mid) q.1 t) in
      let v = subst (λ (z : ℕ). IsTrueEvent p old (event.Kept z a l) nid) o.0
      (subst (λ (z : Action). IsTrueEvent p old (event.Kept h z l) nid) o.1 u) in
      let x = get-one old j w.0 v.0 w.2 v.2 in
      let y = (next-same old j a w.0 v.0 w.1 v.1 w.2 v.2 w.3 v.3) in
      let n : k ≡ l = w.6 ∙ sym v.6 in (
        λ d. event.Kept ((q.0 ∙ sym o.0) d) ((q.1 ∙ sym o.1) d) (n d),
        w.7 ∙
            ((λ d. old ++ record { node = y d; path = (x d).path ++ a ∷ [] } ∷ []) ∙ sym v.7),
      )
  same-event old s (event.Kept i b k) (event.Seen h c l) j a mid nid q o t u =
      let w = subst (λ (z : ℕ). IsTrueEvent p old (event.Kept z a k) mid) q.0
      (subst (λ (z : Action). IsTrueEvent p old (event.Kept i z k) mid) q.1 t) in
      let v = subst (λ (z : ℕ). IsTrueEvent p old (event.Seen z a l) nid) o.0
      (subst (λ (z : Action). IsTrueEvent p old (event.Seen h z l) nid) o.1 u) in
      absurd (w.5 l v.1 v.4 (sym (next-same old j a w.0 v.0 w.1 v.1.node w.2 v.2 w.3 v.3)))
  same-event old s (event.Kept i b k) (event.Pruned h c) j a mid nid q o t u =
      let w = subst (λ (z : ℕ). IsTrueEvent p old (event.Kept z a k) mid) q.0
      (subst (λ (z : Action). IsTrueEvent p old (event.Kept i z k) mid) q.1 t) in
      let v = subst (λ (z : ℕ). IsTrueEvent p old (event.Pruned z a) nid) o.0
      (subst (λ (z : Action). IsTrueEvent p old (event.Pruned h z) nid) o.1 u) in
      absurd (w.4 (ap (λ (z : Pair). z.formula) (next-same old j a w.0 v.0 w.1 v.1 w.2 v.2 w.3 v.3) ∙ v.4))
  same-event old s (event.Seen i b k) (event.Kept h c l) j a mid nid q o t u =
      let w = subst (λ (z : ℕ). IsTrueEvent p old (event.Seen z a k) mid) q.0
      (subst (λ (z : Action). IsTrueEvent p old (event.Seen i z k) mid) q.1 t) in
      let v = subst (λ (z : ℕ). IsTrueEvent p old (event.Kept z a l) nid) o.0
      (subst (λ (z : Action). IsTrueEvent p old (event.Kept h z l) nid) o.1 u) in
      absurd (v.5 k w.1 w.4 (next-same old j a w.0 v.0 w.1.node v.1 w.2 v.2 w.3 v.3))
  same-event old s (event.Seen i b k) (event.Seen h c l) j a mid nid q o t u =
      let w = subst (λ (z : ℕ). IsTrueEvent p old (event.Seen z a k) mid) q.0
      (subst (λ (z : Action). IsTrueEvent p old (event.Seen i z k) mid) q.1 t) in
      let v = subst (λ (z : ℕ). IsTrueEvent p old (event.Seen z a l) nid) o.0
      (subst (λ (z : Action). IsTrueEvent p old (event.Seen h z l) nid) o.1 u) in
      let n : k ≡ l = s.differ k l w.1 v.1 w.4 v.4 (next-same old j a w.0 v.0 w.1.node v.1.node w.2 v.2 w.3 v.3) in
      (λ d. event.Seen ((q.0 ∙ sym o.0) d) ((q.1 ∙ sym o.1) d) (n d), w.5 ∙ sym v.5)
  same-event old s (event.Seen i b k) (event.Pruned h c) j a mid nid q o t u =
      let w = subst (λ (z : ℕ). IsTrueEvent p old (event.Seen z a k) mid) q.0
      (subst (λ (z : Action). IsTrueEvent p old (event.Seen i z k) mid) q.1 t) in
      let v = subst (λ (z : ℕ). IsTrueEvent p old (event.Pruned z a) nid) o.0
      (subst (λ (z : Action). IsTrueEvent p old (event.Pruned h z) nid) o.1 u) in
      absurd (s.unpruned k w.1 w.4 (ap (λ (z : Pair). z.formula) (next-same old j a w.0 v.0 w.1.node v.1 w.2 v.2 w.3 v.3) ∙ v.4))
  same-event old s (event.Pruned i b) (event.Kept h c l) j a mid nid q o t u =
      let w = subst (λ (z : ℕ). IsTrueEvent p old (event.Pruned z a) mid) q.0
      (subst (λ (z : Action). IsTrueEvent p old (event.Pruned i z) mid) q.1 t) in
      let v = subst (λ (z : ℕ). IsTrueEvent p old (event.Kept z a l) nid) o.0
      (subst (λ (z : Action). IsTrueEvent p old (event.Kept h z l) nid) o.1 u) in
      absurd (v.4 (sym (ap (λ (z : Pair). z.formula) (next-same old j a w.0 v.0 w.1 v.1 w.2 v.2 w.3 v.3)) ∙ w.4))
  same-event old s (event.Pruned i b) (event.Seen h c l) j a mid nid q o t u =
      let w = subst (λ (z : ℕ). IsTrueEvent p old (event.Pruned z a) mid) q.0
      (subst (λ (z : Action). IsTrueEvent p old (event.Pruned i z) mid) q.1 t) in
      let v = subst (λ (z : ℕ). IsTrueEvent p old (event.Seen z a l) nid) o.0
      (subst (λ (z : Action). IsTrueEvent p old (event.Seen h z l) nid) o.1 u) in
      absurd (s.unpruned l v.1 v.4 (sym (ap (λ (z : Pair). z.formula) (next-same old j a w.0 v.0 w.1 v.1.node w.2 v.2 w.3 v.3)) ∙ w.4))
  same-event old s (event.Pruned i b) (event.Pruned h c) j a mid nid q o t u =
      let w = subst (λ (z : ℕ). IsTrueEvent p old (event.Pruned z a) mid) q.0
      (subst (λ (z : Action). IsTrueEvent p old (event.Pruned i z) mid) q.1 t) in
      let v = subst (λ (z : ℕ). IsTrueEvent p old (event.Pruned z a) nid) o.0
      (subst (λ (z : Action). IsTrueEvent p old (event.Pruned h z) nid) o.1 u) in
      (λ d. event.Pruned ((q.0 ∙ sym o.0) d) ((q.1 ∙ sym o.1) d), w.5 ∙ sym v.5)

-- ---- the end of events

tail-ends : (events : List Event) (e : Event) (rest front : List Event) (last : Event) → events ++ e ∷ rest ≡ front ++ last ∷ [] →
    (mine : List Event) × (e ∷ rest ≡ mine ++ last ∷ [])
tail-ends [] e rest front last q = (front, q)
tail-ends (x ∷ events) e rest [] last q = absurd (let n : length (x ∷ (events ++ e ∷ rest)) ≡ 1 = ap length q in let b : ⊥ =
    omega (arith, n, length-append events (e ∷ rest)) in b)
tail-ends (x ∷ events) e rest (y ∷ front) last q = tail-ends events e rest front last
    (let m : events ++ e ∷ rest ≡ front ++ last ∷ [] = cc in m)

events-split : (p : PlainProblem) (old : List KeptPair) (es : List Event) (e : Event) (new : List KeptPair) →
    AreTrueEvents p old (es ++ e ∷ []) new → (mid : List KeptPair) × AreTrueEvents p old es mid × IsTrueEvent p mid e new
events-split p old [] e new t = (old, refl, subst (IsTrueEvent p old e) t.2 t.1)
events-split p old (f ∷ es) e new t = let h = events-split p t.0 es e new t.2 in (h.0, (t.0, t.1, h.1), h.2)

last-number : (p : PlainProblem) (mid : List KeptPair) (e : Event) (new : List KeptPair) (k : ℕ) → IsTrueEvent p mid e new → kept_number e ≡
    Some k → k ≡ length mid
last-number p mid event.RootKept new k t e = let q : 0 ≡ k = cc in let n : length mid ≡ 0 = ap length t.3 in omega (arith, q, n)
last-number p mid event.RootPruned new k t e = absurd (let b : ⊥ = cc in b)
last-number p mid (event.Kept j a i) new k t e = let q : i ≡ k = cc in sym q ∙ t.6
last-number p mid (event.Seen j a i) new k t e = absurd (let b : ⊥ = cc in b)
last-number p mid (event.Pruned j a) new k t e = absurd (let b : ⊥ = cc in b)

-- where events go on, the last of which keeps a pair, there are more pairs then
pub longer : (p : PlainProblem) (kept others : List KeptPair) (events told : List Event) (e : Event) (rest : List Event) →
    EndsByKeeping others told → told ≡ events ++ e ∷ rest → AreTrueEvents p kept (e ∷ rest) others → length kept < length others
longer p kept others events told e rest ends is t =
    let m = tail-ends events e rest ends.front ends.last (sym is ∙ ends.ends) in
    let h = events-split p kept m.0 ends.last others (subst (λ es. AreTrueEvents p kept es others) m.1 t) in
    let n : ends.number ≡ length h.0 = last-number p h.0 ends.last others ends.number h.2 ends.keeps in
    let l : length kept ≤ length h.0 = events-longer p kept m.0 h.0 h.1 in
    omega (arith, n, l, ends.is_last)
