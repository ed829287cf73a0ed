-- The events of a breadth-first search are one list.
use Rattle.std.proofs.Common.{◌≡◌, ◌≢◌, ◌≤◌, ◌<◌, ◌+◌, ◌⊎◌, ℕ, List, [], ◌∷◌, ◌++◌, length, slice_get, Option, Some, None, IsTrue, is_some}
use Rattle.std.proofs.Common.{Ordering, Less, Equal, Greater, refl, sym, ap, ◌∙◌, subst, inl, inr, arith, append_assoc}
use Rattle.std.specs.Cmp.{tied_itself}
use Rattle.std.specs.Option.{option_map}
use Rattle.std.specs.Ordering.{ordering_reverse}
use native.Mathlib.Decide.{dec_lt}
use Rattle.tl_syntax.specs.declared.action.Action.{Action}
use Rattle.tl_syntax.specs.Lists.{Among}
use Rattle.tl_syntax.specs.Trees.{falsum}
use Rattle.tl_syntax.proofs.ListLaws.{One-append, Each-Among}
use Rattle.tl_terms.specs.Orders.{action_cmp}
use Rattle.tl_terms.specs.Pairs.{Pair, pair_of}
use Rattle.tl_terms.specs.Problem.{PlainProblem}
use Rattle.tl_terms.specs.Step.{step}
use Rattle.tl_terms.proofs.OrderLaws.{actions-total}
use Rattle.tl_search.specs.Ends.{EndsByKeeping}
use Rattle.tl_search.specs.KeptPairs.{KeptPair}
use Rattle.tl_search.specs.PairGraph.{pair_in}
use Rattle.tl_search.specs.TrueEvents.{IsTrueEvent, AreTrueEvents}
use Rattle.tl_search.specs.declared.event.Event.{Event}
use Rattle.tl_search.specs.declared.event.Event.TheVariants as event
use Rattle.tl_search.specs.declared.outcome.Outcome.{Outcome}
use Rattle.tl_search.specs.declared.outcome.Outcome.TheVariants as outcome
use Rattle.tl_search.proofs.ListLaws.{get-one}
use Rattle.tl_search.proofs.SameEvents.{IsOf, AreSound, sound-none, sound-event, sound-events, events-grow, same-event, longer}
use Rattle.tl_breadth.specs.Events.{Arrived, IsEarlier, AreInTurn, IsArrival, AreFirstArrivals, AreAllArrivals, arrived_in, arrivals_of}
use Rattle.tl_breadth.specs.Events.{TellsRootOnce}
use Rattle.tl_breadth.specs.Traces.{KeepsLast, AreInBreadth}

-- ---- arrivals

told-first : (r s : Arrived) → r ∷ [] ≡ s ∷ [] → r ≡ s
told-first r s e = cc

of-arrived : (e : Event) (r : Arrived) → arrived_in e ≡ r ∷ [] → IsOf r.0 r.1 e
of-arrived event.RootKept r q = let b : ⊥ = cc in b
of-arrived event.RootPruned r q = let b : ⊥ = cc in b
of-arrived (event.Kept j a k) r q = let v = told-first (j, a) r q in (ap (λ (c : Arrived). c.0) v, ap (λ (c : Arrived). c.1) v)
of-arrived (event.Seen j a k) r q = let v = told-first (j, a) r q in (ap (λ (c : Arrived). c.0) v, ap (λ (c : Arrived). c.1) v)
of-arrived (event.Pruned j a) r q = let v = told-first (j, a) r q in (ap (λ (c : Arrived). c.0) v, ap (λ (c : Arrived). c.1) v)

module _ (p : PlainProblem) where
  -- an arrival is of a pair that was kept before
  mapped : {A B : Type 0} (f : A → B) (o : Option A) (y : B) → option_map f o ≡ Some y → IsTrue (is_some o)
  mapped f None y e = absurd (let b : ⊥ = cc in b)
  mapped f (Some x) y e = refl

  arrival-there : (old : List KeptPair) (e : Event) (mid : List KeptPair) (r : Arrived) → arrived_in e ≡ r ∷ [] → IsTrueEvent p old e mid →
      (x : KeptPair) × (slice_get old r.0 ≡ Some x) × IsTrue (is_some (step p x.node.world r.1))
  arrival-there old event.RootKept mid r q t = absurd (let b : ⊥ = cc in b)
  arrival-there old event.RootPruned mid r q t = absurd (let b : ⊥ = cc in b)
  arrival-there old (event.Kept j a k) mid r q t = let v = told-first (j, a) r q in (
    t.0,
    subst (λ (c : Arrived). slice_get old c.0 ≡ Some t.0) v t.2,
    subst (λ (c : Arrived). IsTrue (is_some (step p t.0.node.world c.1))) v
        (mapped (pair_in p t.0.node.formula) (step p t.0.node.world a) t.1 t.3),
  )
  arrival-there old (event.Seen j a k) mid r q t = let v = told-first (j, a) r q in (
    t.0,
    subst (λ (c : Arrived). slice_get old c.0 ≡ Some t.0) v t.2,
    subst (λ (c : Arrived). IsTrue (is_some (step p t.0.node.world c.1))) v
        (mapped (pair_in p t.0.node.formula) (step p t.0.node.world a) t.1.node t.3),
  )
  arrival-there old (event.Pruned j a) mid r q t = let v = told-first (j, a) r q in (
    t.0,
    subst (λ (c : Arrived). slice_get old c.0 ≡ Some t.0) v t.2,
    subst (λ (c : Arrived). IsTrue (is_some (step p t.0.node.world c.1))) v
        (mapped (pair_in p t.0.node.formula) (step p t.0.node.world a) t.1 t.3),
  )

-- ---- the order of arrivals

not-both : (r s : Arrived) → IsEarlier r s → IsEarlier s r → ⊥
not-both r s (inl a) (inl b) = omega (arith, a, b)
not-both r s (inl a) (inr b) = omega (arith, a, b.0)
not-both r s (inr a) (inl b) = omega (arith, a.0, b)
not-both r s (inr a) (inr b) = let q : Less ≡ Equal = sym (actions-total.total.trans r.1 s.1 r.1 a.1 b.1) ∙
    tied_itself actions-total.total r.1 in cc

one-before : (r s : Arrived) → (r ≡ s) ⊎ (IsEarlier r s ⊎ IsEarlier s r)
one-before r s = elim (dec_lt r.0 s.0) [
  | yes l ↦ inr (inl (inl l))
  | no m ↦ elim (dec_lt s.0 r.0) [
    | yes l ↦ inr (inr (inl l))
    | no n ↦ by_action (let q : r.0 ≡ s.0 = omega (arith, m, n) in q)
        (action_cmp r.1 s.1) refl
  ]
]
  where
    by_action : r.0 ≡ s.0 → (o : Ordering) → action_cmp r.1 s.1 ≡ o → (r ≡ s) ⊎ (IsEarlier r s ⊎ IsEarlier s r)
    by_action q Less e = inr (inl (inr (q, e)))
    by_action q Equal e = inl (let f : r.1 ≡ s.1 = actions-total.ties r.1 s.1 e in let d : (r.0, r.1) ≡ s = λ i. (q i, f i) in d)
    by_action q Greater e = inr (inr (inr (sym q, actions-total.total.antisymm s.1 r.1 ∙ ap ordering_reverse e)))

among-here : (past : List Arrived) (r : Arrived) (rest : List Arrived) → Among r (past ++ r ∷ rest)
among-here past r rest = (One-append (λ z. z ≡ r) past (r ∷ rest)).1 (inr (inl refl))

turn-before : (past : List Arrived) (r : Arrived) (rest : List Arrived) → AreInTurn (past ++ r ∷ rest) → (q : Arrived) → Among q past →
    IsEarlier q r
turn-before [] r rest t q m = absurd m
turn-before (x ∷ past) r rest t q (inl e) = subst (λ z. IsEarlier z r) e
    ((Each-Among (λ s. IsEarlier x s) (past ++ r ∷ rest)).0 t.0 r (among-here past r rest))
turn-before (x ∷ past) r rest t q (inr m) = turn-before past r rest t.1 q m

turn-after : (past : List Arrived) (r : Arrived) (rest : List Arrived) → AreInTurn (past ++ r ∷ rest) → (q : Arrived) → Among q rest →
    IsEarlier r q
turn-after [] r rest t q m = (Each-Among (λ s. IsEarlier r s) rest).0 t.0 q m
turn-after (x ∷ past) r rest t q m = turn-after past r rest t.1 q m

carried : (p : PlainProblem) (n : ℕ) (kept others : List KeptPair) (r : Arrived) (x : KeptPair) → slice_get kept r.0 ≡ Some x →
    slice_get others r.0 ≡ Some x → IsArrival p n kept r → IsArrival p n others r
carried p n kept others r x e f h = (
  h.0,
  subst (λ (z : KeptPair). slice_get others r.0 ≡ Some z) (get-one kept r.0 x h.0 e h.1) f,
  h.2,
  h.3,
)

-- the next one of two lists that begin alike is the same
too-early : (p : PlainProblem) (n : ℕ) (kept others : List KeptPair) (past : List Arrived) (r : Arrived) (rest : List Arrived) (s : Arrived)
    (later : List Arrived) → AreFirstArrivals p n kept (past ++ r ∷ rest) → AreFirstArrivals p n others (past ++ s ∷ later) →
    IsArrival p n others r → IsEarlier r s → ⊥
too-early p n kept others past r rest s later f g h e = elim ((One-append (λ z. z ≡ r) past (s ∷ later)).0
    (g.none_left_out r s h (among-here past s later) e)) [
      | inl m ↦ (let b = turn-before past r rest f.in_turn r m in not-both r r b b)
      | inr m ↦ elim m [
        | inl q ↦ (let b = subst (λ z. IsEarlier r z) q e in not-both r r b b)
        | inr k ↦ not-both r s e
            (turn-after past s later g.in_turn r k)
      ]
    ]

first-same : (p : PlainProblem) (n : ℕ) (kept others : List KeptPair) (past : List Arrived) (r : Arrived) (rest : List Arrived)
    (s : Arrived) (later : List Arrived) → AreFirstArrivals p n kept (past ++ r ∷ rest) → AreFirstArrivals p n others (past ++ s ∷ later) →
    IsArrival p n others r → IsArrival p n kept s → r ≡ s
first-same p n kept others past r rest s later f g h k = elim (one-before r s) [
  | inl e ↦ e
  | inr m ↦ elim m [
    | inl e ↦ absurd (too-early p n kept others past r rest s later f g h e)
    | inr e ↦ absurd
        (too-early p n others kept past s later r rest g f k e)
  ]
]

-- ---- events and their arrivals

few-arrivals : (es : List Event) → length (arrivals_of es) ≤ length es
few-arrivals [] = omega arith
few-arrivals (event.RootKept ∷ es) = omega (arith, few-arrivals es)
few-arrivals (event.RootPruned ∷ es) = omega (arith, few-arrivals es)
few-arrivals (event.Kept j a k ∷ es) = omega (arith, few-arrivals es)
few-arrivals (event.Seen j a k ∷ es) = omega (arith, few-arrivals es)
few-arrivals (event.Pruned j a ∷ es) = omega (arith, few-arrivals es)

one-each : (e : Event) (es : List Event) → length (e ∷ es) ≡ length (arrivals_of (e ∷ es)) → (r : Arrived) × (arrived_in e ≡ r ∷ []) ×
    (length es ≡ length (arrivals_of es))
one-each event.RootKept es l = absurd (let b : ⊥ = omega (arith, l, few-arrivals es) in b)
one-each event.RootPruned es l = absurd (let b : ⊥ = omega (arith, l, few-arrivals es) in b)
one-each (event.Kept j a k) es l = ((j, a), refl, omega (arith, l))
one-each (event.Seen j a k) es l = ((j, a), refl, omega (arith, l))
one-each (event.Pruned j a) es l = ((j, a), refl, omega (arith, l))

arrivals-append : (xs ys : List Event) → arrivals_of (xs ++ ys) ≡ arrivals_of xs ++ arrivals_of ys
arrivals-append [] ys = refl
arrivals-append (x ∷ xs) ys = ap (λ rs. arrived_in x ++ rs) (arrivals-append xs ys) ∙
    sym (append_assoc (arrived_in x) (arrivals_of xs) (arrivals_of ys))

-- the second goes on where the first ends
abbrev GoesOn : PlainProblem → List KeptPair → List Event → List KeptPair → List Event → Type 0
GoesOn p kept events others told = (e : Event) × (rest : List Event) × (r : Arrived) × (told ≡ events ++ e ∷ rest) ×
    (arrived_in e ≡ r ∷ []) × AreTrueEvents p kept (e ∷ rest) others

abbrev Compares : PlainProblem → List KeptPair → List Event → List KeptPair → List Event → Type 0
Compares p kept events others told = ((events ≡ told) × (kept ≡ others)) ⊎
    (GoesOn p kept events others told ⊎ GoesOn p others told kept events)

compares-more : (p : PlainProblem) (kept : List KeptPair) (e : Event) (es : List Event) (others : List KeptPair) (f : Event)
    (fs : List Event) → e ≡ f → Compares p kept es others fs → Compares p kept (e ∷ es) others (f ∷ fs)
compares-more p kept e es others f fs q (inl c) = inl (λ i. q i ∷ c.0 i, c.1)
compares-more p kept e es others f fs q (inr (inl c)) = inr (inl (c.0, c.1, c.2, λ i. sym q i ∷ c.3 i, c.4, c.5))
compares-more p kept e es others f fs q (inr (inr c)) = inr (inr (c.0, c.1, c.2, λ i. q i ∷ c.3 i, c.4, c.5))

compares : (p : PlainProblem) (n : ℕ) (kept others : List KeptPair) (past : List Arrived) (old : List KeptPair) (es fs : List Event) →
    AreSound old → AreTrueEvents p old es kept → AreTrueEvents p old fs others → length es ≡ length (arrivals_of es) → length fs ≡
    length (arrivals_of fs)
    → AreFirstArrivals p n kept (past ++ arrivals_of es) → AreFirstArrivals p n others (past ++ arrivals_of fs) →
    Compares p kept es others fs
compares p n kept others past old [] [] s t u k l f g = inl (refl, sym t ∙ u)
compares p n kept others past old [] (e ∷ fs) s t u k l f g = let o = one-each e fs l in
    inr (inl (e, fs, o.0, refl, o.1, subst (λ z. AreTrueEvents p z (e ∷ fs) others) t u))
compares p n kept others past old (e ∷ es) [] s t u k l f g = let o = one-each e es k in
    inr (inr (e, es, o.0, refl, o.1, subst (λ z. AreTrueEvents p z (e ∷ es) kept) u t))
compares p n kept others past old (e ∷ es) (h ∷ hs) s t u k l f g =
    let a = one-each e es k in
    let b = one-each h hs l in
    let f1 = subst (λ z. AreFirstArrivals p n kept (past ++ (z ++ arrivals_of es))) a.1 f in
    let g1 = subst (λ z. AreFirstArrivals p n others (past ++ (z ++ arrivals_of hs))) b.1 g in
    let x = arrival-there p old e t.0 a.0 a.1 t.1 in
    let y = arrival-there p old h u.0 b.0 b.1 u.1 in
    let into = carried p n kept others a.0 x.0 (events-grow p old (e ∷ es) kept t a.0.0 x.0 x.1)
    (events-grow p old (h ∷ hs) others u a.0.0 x.0 x.1) (f1.right a.0 (among-here past a.0 (arrivals_of es))) in
    let back = carried p n others kept b.0 y.0 (events-grow p old (h ∷ hs) others u b.0.0 y.0 y.1)
    (events-grow p old (e ∷ es) kept t b.0.0 y.0 y.1) (g1.right b.0 (among-here past b.0 (arrivals_of hs))) in
    let same = first-same p n kept others past a.0 (arrivals_of es) b.0 (arrivals_of hs) f1 g1 into back in
    let w = same-event p old s e h a.0.0 a.0.1 t.0 u.0 (of-arrived e a.0 a.1)
    (of-arrived h a.0 (b.1 ∙ ap (λ z. z ∷ []) (sym same))) t.1 u.1 in
    let f2 = subst (AreFirstArrivals p n kept) (sym (append_assoc past (a.0 ∷ []) (arrivals_of es))) f1 in
    let g2 = subst (AreFirstArrivals p n others) (sym (append_assoc past (a.0 ∷ []) (arrivals_of hs)))
    (subst (λ z. AreFirstArrivals p n others (past ++ z ∷ arrivals_of hs)) (sym same) g1) in
    compares-more p kept e es others h hs w.0
    (compares p n kept others (past ++ a.0 ∷ []) t.0 es hs (sound-event p old e t.0 t.1 s) t.2
    (subst (λ z. AreTrueEvents p z hs others) (sym w.1) u.2) a.2 b.2 f2 g2)

-- ---- the root

record Starts (p : PlainProblem) (kept : List KeptPair) (events : List Event) : Type 0 where
  root : Event
  rest : List Event
  mid : List KeptPair
  x : Pair
  splits : events ≡ root ∷ rest
  silent : arrived_in root ≡ []
  is_root : pair_of p [] ≡ Some x
  kinds : ((x.formula ≢ falsum) × (root ≡ event.RootKept) × (mid ≡ record { node = x; path = [] } ∷ [])) ⊎
      ((x.formula ≡ falsum) × (root ≡ event.RootPruned) × (mid ≡ []))
  sound : AreSound mid
  tail : AreTrueEvents p mid rest kept
  each : length rest ≡ length (arrivals_of rest)

starts : (p : PlainProblem) (kept : List KeptPair) (events : List Event) → AreTrueEvents p [] events kept → TellsRootOnce events →
    Starts p kept events
starts p kept [] t l = absurd (let b : ⊥ = omega (arith, l) in b)
starts p kept (event.RootKept ∷ es) t l = record {
  root = event.RootKept;
  rest = es;
  mid = t.0;
  x = t.1.0;
  splits = refl;
  silent =
      refl;
  is_root = t.1.1;
  kinds = inl (t.1.2, refl, t.1.4);
  sound = sound-event p [] event.RootKept t.0 t.1 sound-none;
  tail = t.2;
  each =
      omega (arith, l);
}
starts p kept (event.RootPruned ∷ es) t l = record {
  root = event.RootPruned;
  rest = es;
  mid = t.0;
  x = t.1.0;
  splits = refl;
  silent =
      refl;
  is_root = t.1.1;
  kinds = inr (t.1.2, refl, t.1.4);
  sound = sound-event p [] event.RootPruned t.0 t.1 sound-none;
  tail =
      t.2;
  each = omega (arith, l);
}
starts p kept (event.Kept j a k ∷ es) t l = absurd (let q : slice_get [] j ≡ Some t.1.0 = t.1.2 in let b : ⊥ = cc in b)
starts p kept (event.Seen j a k ∷ es) t l = absurd (let q : slice_get [] j ≡ Some t.1.0 = t.1.2 in let b : ⊥ = cc in b)
starts p kept (event.Pruned j a ∷ es) t l = absurd (let q : slice_get [] j ≡ Some t.1.0 = t.1.2 in let b : ⊥ = cc in b)

same-starts : (p : PlainProblem) (kept others : List KeptPair) (events told : List Event) (s : Starts p kept events)
    (t : Starts p others told) → (s.root ≡ t.root) × (s.mid ≡ t.mid)
same-starts p kept others events told s t = elim s.kinds [
  | inl k ↦ elim t.kinds [
    | inl l ↦ (k.1 ∙ sym l.1, k.2 ∙ ((λ i. record { node = same i; path = [] } ∷ []) ∙ sym l.2))
    | inr l ↦ absurd (k.0 (ap (λ (z : Pair). z.formula) same ∙ l.0))
  ]
  | inr k ↦ elim t.kinds [
    | inl l ↦ absurd (l.0 (sym (ap (λ (z : Pair). z.formula) same) ∙ k.0))
    | inr l ↦ (k.1 ∙ sym l.1, k.2 ∙ sym l.2)
  ]
]
  where
    same : s.x ≡ t.x
    same = let q : Some s.x ≡ Some t.x = sym s.is_root ∙ t.is_root in cc

whole : (p : PlainProblem) (n : ℕ) (kept others : List KeptPair) (events told : List Event) → AreTrueEvents p [] events kept →
    AreTrueEvents p [] told others → TellsRootOnce events → TellsRootOnce told → AreFirstArrivals p n kept (arrivals_of events) →
    AreFirstArrivals p n others (arrivals_of told) → Compares p kept events others told
whole p n kept others events told t u k l f g =
    let a = starts p kept events t k in
    let b = starts p others told u l in
    let same = same-starts p kept others events told a b in
    let f1 = subst (AreFirstArrivals p n kept) (ap arrivals_of a.splits ∙ ap (λ rs. rs ++ arrivals_of a.rest) a.silent) f in
    let g1 = subst (AreFirstArrivals p n others) (ap arrivals_of b.splits ∙ ap (λ rs. rs ++ arrivals_of b.rest) b.silent) g in
    let c = compares-more p kept a.root a.rest others b.root b.rest same.0
    (compares p n kept others [] a.mid a.rest b.rest a.sound a.tail
    (subst (λ z. AreTrueEvents p z b.rest others) (sym same.1) b.tail) a.each b.each f1 g1) in
    subst (λ es. Compares p kept es others told) (sym a.splits) (subst (λ es. Compares p kept (a.root ∷ a.rest) others es) (sym b.splits) c)

-- ---- neither goes on where the other ends

unfinished : (p : PlainProblem) (n : ℕ) (kept others : List KeptPair) (events told : List Event) →
    AreAllArrivals p n kept (arrivals_of events) → AreFirstArrivals p n others (arrivals_of told) → GoesOn p kept events others told → ⊥
unfinished p n kept others events told all g (e, rest, r, is, one, t) =
    let g1 = subst (AreFirstArrivals p n others) (ap arrivals_of is ∙ (arrivals-append events (e ∷ rest) ∙
    ap (λ rs. arrivals_of events ++ (rs ++ arrivals_of rest)) one)) g in
    let x = arrival-there p kept e t.0 r one t.1 in
    let h = carried p n others kept r x.0 (events-grow p kept (e ∷ rest) others t r.0 x.0 x.1) x.1
    (g1.right r (among-here (arrivals_of events) r (arrivals_of rest))) in
    let b = turn-before (arrivals_of events) r (arrivals_of rest) g1.in_turn r (all r h) in
    not-both r r b b

-- the plan's pair is kept last in both
plan-twice : (p : PlainProblem) (kept others : List KeptPair) (events told : List Event) (plan : List Action) →
    AreTrueEvents p [] told others → EndsByKeeping others told → KeepsLast p kept plan → KeepsLast p others plan →
    GoesOn p kept events others told → ⊥
plan-twice p kept others events told plan u ends (i, x, n, at, is) (j, y, m, there, also) g =
    let l : length kept < length others = longer p kept others events told g.0 g.1 ends g.3 g.5 in
    let s = sound-events p [] told others u sound-none in
    let same : x.node ≡ y.node = (let q : Some x.node ≡ Some y.node = sym is ∙ also in cc) in
    let one : i ≡ j = s.differ i j x y (events-grow p kept (g.0 ∷ g.1) others g.5 i x at) there same in
    omega (arith, l, n, m, one)

goes-not : (p : PlainProblem) (n b : ℕ) (kept others : List KeptPair) (events told : List Event) (o : Outcome) →
    AreInBreadth p n b kept events o → AreInBreadth p n b others told o → GoesOn p kept events others told → ⊥
goes-not p n b kept others events told (outcome.Plan plan) h k g = plan-twice p kept others events told plan k.told k.stops.0 h.stops.1
    k.stops.1 g
goes-not p n b kept others events told outcome.NoPlan h k g = unfinished p n kept others events told h.stops k.first g
goes-not p n b kept others events told outcome.NoneWithin h k g = unfinished p n kept others events told h.stops k.first g
goes-not p n b kept others events told outcome.Spent h k g = let l : length kept < length others =
    longer p kept others events told g.0 g.1 k.stops.0 g.3 g.5 in let i : length kept ≡ b + 1 = h.stops.1 in let j : length others ≡ b + 1 =
    k.stops.1 in omega (arith, l, i, j)

pub one-trace : (p : PlainProblem) (n b : ℕ) (kept others : List KeptPair) (events told : List Event) (o : Outcome) →
    AreInBreadth p n b kept events o → AreInBreadth p n b others told o → (events ≡ told) × (kept ≡ others)
one-trace p n b kept others events told o h k = elim (whole p n kept others events told h.told k.told h.root_once k.root_once h.first
    k.first) [
      | inl c ↦ c
      | inr m ↦ elim m [
        | inl g ↦ absurd (goes-not p n b kept others events told o h k g)
        | inr g ↦ absurd
            (goes-not p n b others kept told events o k h g)
      ]
    ]
