-- The events of a depth-first search are one list.
use Rattle.std.proofs.Common.{◌≡◌, ◌<◌, ◌+◌, ◌⊎◌, ℕ, zero, suc, List, [], ◌∷◌, ◌++◌, length, Bool, true, false, Some, IsTrue, refl, sym, ap}
use Rattle.std.proofs.Common.{◌∙◌, subst, inl, inr, arith, append_assoc, append-nil}
use Rattle.std.proofs.lemmas.List.{length-map}
use Rattle.std.proofs.lemmas.Option.{slice_get_within}
use Rattle.tl_syntax.specs.declared.action.Action.{Action}
use Rattle.tl_terms.specs.Pairs.{Pair}
use Rattle.tl_terms.specs.Problem.{PlainProblem}
use Rattle.tl_search.specs.Ends.{EndsByKeeping}
use Rattle.tl_search.specs.KeptPairs.{KeptPair, pairs_of}
use Rattle.tl_search.specs.ListedActions.{ListsActions}
use Rattle.tl_search.specs.TrueEvents.{IsTrueEvent, AreTrueEvents}
use Rattle.tl_search.specs.declared.event.Event.{Event}
use Rattle.tl_search.specs.declared.event.Event.TheVariants as event
use Rattle.tl_search.specs.declared.outcome.Outcome.{Outcome}
use Rattle.tl_search.specs.declared.outcome.Outcome.TheVariants as outcome
use Rattle.tl_search.proofs.KeptLaws.{kept-pair}
use Rattle.tl_search.proofs.ListLaws.{get-one, get-inside}
use Rattle.tl_search.proofs.SameEvents.{IsOf, AreSound, sound-none, sound-event, sound-events, events-grow, same-event, longer}
use Rattle.tl_search.proofs.WalkLaws.{length-snoc}
use Rattle.tl_depth.specs.Entering.{Meeting, Part, Passes, Follows, AreTried, Meets, AreInDepth}
use Rattle.tl_depth.specs.Outcomes.{HasLastPair}
use Rattle.tl_depth.specs.Stacks.{IsEventOf}
use Rattle.tl_depth.specs.Traces.{AreDepthFirst}
use Rattle.tl_depth.proofs.Replaying.{lists-same}

as-of : (j : ℕ) (a : Action) (e : Event) → IsEventOf j a e → IsOf j a e
as-of j a event.RootKept h = h
as-of j a event.RootPruned h = h
as-of j a (event.Kept i b k) h = h
as-of j a (event.Seen i b k) h = h
as-of j a (event.Pruned i b) h = h

events-append : (p : PlainProblem) (old : List KeptPair) (xs : List Event) (mid : List KeptPair) (ys : List Event) (new : List KeptPair) →
    AreTrueEvents p old xs mid → AreTrueEvents p mid ys new → AreTrueEvents p old (xs ++ ys) new
events-append p old [] mid ys new t u = subst (λ z. AreTrueEvents p z ys new) (sym t) u
events-append p old (x ∷ xs) mid ys new t u = (t.0, t.1, events-append p t.0 xs mid ys new t.2 u)

-- the second goes on where the first ends
abbrev GoesOn : PlainProblem → List KeptPair → List Event → List KeptPair → List Event → Type 0
GoesOn p kept events others told = (rest : List Event) × (told ≡ events ++ rest) × AreTrueEvents p kept rest others

module _ (p : PlainProblem) (kept others : List KeptPair) (cut : Bool) where
  -- both parts tell the same, and come to the same meetings
  record Alike (old : List KeptPair) (es : List Event) (after : List Meeting) (later fs : List Event) (since : List Meeting)
      (rest : List Event) : Type 0 where
    told : List Event
    mid : List KeptPair
    met : after ≡ since
    first : es ≡ told ++ later
    second : fs ≡ told ++ rest
    true_so : AreTrueEvents p old told mid
    here : AreTrueEvents p mid later kept
    there : AreTrueEvents p mid rest others

  -- or one of them ends the search, and the other goes on
  abbrev OneEnds : List Event → List Event → Type 0
  OneEnds es fs = IsTrue cut × (GoesOn p kept es others fs ⊎ GoesOn p others fs kept es)

  abbrev Result : List KeptPair → List Event → List Meeting → List Event → List Event → List Meeting → List Event → Type 0
  Result old es after later fs since rest = Alike old es after later fs since rest ⊎ OneEnds es fs

  passes-same : (old : List KeptPair) (met : List Meeting) (es : List Event) (after : List Meeting) (later fs : List Event)
      (since : List Meeting) (rest : List Event) → Passes met es after later → Passes met fs since rest → AreTrueEvents p old es kept →
      AreTrueEvents p old fs others → Result old es after later fs since rest
  passes-same old met es after later fs since rest h k t u = inl (record {
    told = [];
    mid = old;
    met = h.0 ∙ sym k.0;
    first = sym h.1;
    second = sym k.1;
    true_so = refl;
    here = subst (λ z. AreTrueEvents p old z kept) (sym h.1) t;
    there = subst (λ z. AreTrueEvents p old z others) (sym k.1) u;
  })

  ends-first : (old : List KeptPair) (es fs : List Event) → es ≡ [] → AreTrueEvents p old es kept → AreTrueEvents p old fs others →
      GoesOn p kept es others fs
  ends-first old es fs e t u = (
    fs,
    ap (λ z. z ++ fs) (sym e),
    subst (λ z. AreTrueEvents p z fs others)
        (subst (λ z. AreTrueEvents p old z kept) e t) u,
  )

  ends-second : (old : List KeptPair) (es fs : List Event) → fs ≡ [] → AreTrueEvents p old es kept → AreTrueEvents p old fs others →
      GoesOn p others fs kept es
  ends-second old es fs e t u = (
    es,
    ap (λ z. z ++ es) (sym e),
    subst (λ z. AreTrueEvents p z es kept)
        (subst (λ z. AreTrueEvents p old z others) e u) t,
  )

  -- an event before both
  after-event : (old mid : List KeptPair) (e : Event) → IsTrueEvent p old e mid →
      (es : List Event) (after : List Meeting) (later fs : List Event) (since : List Meeting) (rest : List Event) →
      Result mid es after later fs since rest → Result old (e ∷ es) after later (e ∷ fs) since rest
  after-event old mid e t es after later fs since rest (inl a) = inl (record {
    told = e ∷ a.told;
    mid = a.mid;
    met = a.met;
    first = ap (λ z. e ∷ z) a.first;
    second = ap (λ z. e ∷ z) a.second;
    true_so = (mid, t, a.true_so);
    here = a.here;
    there = a.there;
  })
  after-event old mid e t es after later fs since rest (inr (c, inl g)) = inr (c, inl (g.0, ap (λ z. e ∷ z) g.1, g.2))
  after-event old mid e t es after later fs since rest (inr (c, inr g)) = inr (c, inr (g.0, ap (λ z. e ∷ z) g.1, g.2))

  goes-later : (q : PlainProblem) (xs ys : List KeptPair) (told es fs later rest : List Event) → es ≡ told ++ later → fs ≡ told ++ rest →
      GoesOn q xs later ys rest → GoesOn q xs es ys fs
  goes-later q xs ys told es fs later rest e f g = (
    g.0,
    f ∙ (ap (λ z. told ++ z) g.1 ∙
        (sym (append_assoc told later g.0) ∙ ap (λ z. z ++ g.0) (sym e))),
    g.2,
  )

  -- one part after another
  and-then : (old : List KeptPair) (es : List Event) (met : List Meeting) (mine fs : List Event) (since : List Meeting) (yours : List Event)
      (a : Alike old es met mine fs since yours) (after : List Meeting) (later : List Event) (then : List Meeting) (rest : List Event)
      → Result a.mid mine after later yours then rest → Result old es after later fs then rest
  and-then old es met mine fs since yours a after later then rest (inl b) = inl (record {
    told = a.told ++ b.told;
    mid = b.mid;
    met = b.met;
    first = a.first ∙ (ap (λ z. a.told ++ z) b.first ∙ sym (append_assoc a.told b.told later));
    second = a.second ∙ (ap (λ z. a.told ++ z) b.second ∙ sym (append_assoc a.told b.told rest));
    true_so = events-append p old a.told a.mid b.told b.mid a.true_so b.true_so;
    here = b.here;
    there = b.there;
  })
  and-then old es met mine fs since yours a after later then rest (inr (c, inl g)) =
      inr (c, inl (goes-later p kept others a.told es fs mine yours a.first a.second g))
  and-then old es met mine fs since yours a after later then rest (inr (c, inr g)) =
      inr (c, inr (goes-later p others kept a.told fs es yours mine a.second a.first g))

  -- what two searches tell of a pair is the same, or one of them ends
  abbrev AreSame : (ℕ → Part) → (ℕ → Part) → Type 0
  AreSame M N = (old : List KeptPair) → AreSound old → (k : ℕ) → k < length old →
      (met : List Meeting) (es : List Event) (after : List Meeting) (later fs : List Event) (since : List Meeting) (rest : List Event)
      → M k met es after later → N k met fs since rest → AreTrueEvents p old es kept → AreTrueEvents p old fs others →
      Result old es after later fs since rest

  module _ (M N : ℕ → Part) (same : AreSame M N) where
    follows-same : (old mid : List KeptPair) (e : Event) → IsTrueEvent p old e mid → AreSound mid →
        (met : List Meeting) (es : List Event) (after : List Meeting) (later fs : List Event) (since : List Meeting) (rest : List Event)
        → Follows M e met es after later → Follows N e met fs since rest → AreTrueEvents p mid es kept → AreTrueEvents p mid fs others →
        Result mid es after later fs since rest
    follows-same old mid event.RootKept x s met es after later fs since rest h k t u =
        passes-same mid met es after later fs since rest h k t u
    follows-same old mid event.RootPruned x s met es after later fs since rest h k t u =
        passes-same mid met es after later fs since rest h k t u
    follows-same old mid (event.Kept j a i) x s met es after later fs since rest h k t u =
        let n : length mid ≡ suc (length old) = ap length x.7 ∙ length-snoc old (record { node = x.1; path = x.0.path ++ a ∷ [] }) in
        same mid s i (omega (arith, n, x.6)) met es after later fs since rest h k t u
    follows-same old mid (event.Seen j a i) x s met es after later fs since rest h k t u =
        let n : length mid ≡ length old = ap length x.5 in
        let l : i < length old = slice_get_within old i x.1 x.4 in
        same mid s i (omega (arith, n, l)) met es after later fs since rest h k t u
    follows-same old mid (event.Pruned j a) x s met es after later fs since rest h k t u =
        passes-same mid met es after later fs since rest h k t u

    tried-same : (at : ℕ) (actions : List Action) (old : List KeptPair) → AreSound old →
        (met : List Meeting) (es : List Event) (after : List Meeting) (later fs : List Event) (since : List Meeting) (rest : List Event)
        → AreTried cut M at actions met es after later → AreTried cut N at actions met fs since rest → AreTrueEvents p old es kept →
        AreTrueEvents p old fs others → Result old es after later fs since rest
    unfolding AreTried
    tried-same at [] old s met es after later fs since rest h k t u = passes-same old met es after later fs since rest h k t u
    tried-same at (a ∷ actions) old s met es after later fs since rest (inl h) k t u = inr (h.0, inl (ends-first old es fs h.1 t u))
    tried-same at (a ∷ actions) old s met es after later fs since rest (inr h) (inl k) t u = inr (k.0, inr (ends-second old es fs k.1 t u))
    tried-same at (a ∷ actions) old s met es after later fs since rest (inr (e, es1, mid, mine, e-is, e-of, e-met, e-tried))
        (inr (f, fs1, nid, yours, f-is, f-of, f-met, f-tried)) t u =
        let t1 = subst (λ z. AreTrueEvents p old z kept) e-is t in
        let u1 = subst (λ z. AreTrueEvents p old z others) f-is u in
        let w = same-event p old s e f at a t1.0 u1.0 (as-of at a e e-of) (as-of at a f f-of) t1.1 u1.1 in
        let s1 = sound-event p old e t1.0 t1.1 s in
        let one = follows-same old t1.0 e t1.1 s1 met es1 mid mine fs1 nid yours e-met
        (subst (λ z. Follows N z met fs1 nid yours) (sym w.0) f-met) t1.2 (subst (λ z. AreTrueEvents p z fs1 others) (sym w.1) u1.2) in
        let both : Result old (e ∷ es1) after later (e ∷ fs1) since rest =
        after-event old t1.0 e t1.1 es1 after later fs1 since rest
        (on {m = t1.0} (λ b. tried-same at actions b.mid (sound-events p t1.0 b.told b.mid b.true_so s1) mid mine after later yours
        since rest e-tried (subst (λ z. AreTried cut N at actions z yours since rest) (sym b.met) f-tried) b.here b.there) one) in
        subst (λ z. Result old z after later fs since rest) (sym e-is)
        (subst (λ z. Result old (e ∷ es1) after later z since rest) (ap (λ z. z ∷ fs1) w.0 ∙ sym f-is) both)
      where
        on : {m : List KeptPair} → ((b : Alike m es1 mid mine fs1 nid yours) → Result b.mid mine after later yours since rest) →
            Result m es1 mid mine fs1 nid yours → Result m es1 after later fs1 since rest
        on {m} go (inl b) = and-then m es1 mid mine fs1 nid yours b after later since rest (go b)
        on {m} go (inr c) = inr c

  meets-same : (left : ℕ) → AreSame (Meets p (pairs_of kept) cut left) (Meets p (pairs_of others) cut left)
  unfolding Meets
  meets-same zero old s k l met es after later fs since rest h m t u = passes-same old ((k, 0) ∷ met) es after later fs since rest h m t u
  meets-same (suc left) old s k l met es after later fs since rest (inl h) m t u = inr (h.0, inl (ends-first old es fs h.1 t u))
  meets-same (suc left) old s k l met es after later fs since rest (inr h) (inl m) t u = inr (m.0, inr (ends-second old es fs m.1 t u))
  meets-same (suc left) old s k l met es after later fs since rest (inr (inl h)) (inr (inr m)) t u = absurd (m.0 h.0)
  meets-same (suc left) old s k l met es after later fs since rest (inr (inr h)) (inr (inl m)) t u = absurd (h.0 m.0)
  meets-same (suc left) old s k l met es after later fs since rest (inr (inr h)) (inr (inr m)) t u =
      passes-same old ((k, suc left) ∷ met) es after later fs since rest h.1 m.1 t u
  meets-same (suc left) old s k l met es after later fs since rest (inr (inl (more, (x, us, x-is, listed, tried))))
      (inr (inl (also, (y, vs, y-is, lists, tries)))) t u =
      let z = get-inside old k l in
      let x-same : x ≡ z.0.node = get-one (pairs_of kept) k x z.0.node x-is
      (kept-pair kept k z.0 (events-grow p old es kept t k z.0 z.1)) in
      let y-same : y ≡ z.0.node = get-one (pairs_of others) k y z.0.node y-is
      (kept-pair others k z.0 (events-grow p old fs others u k z.0 z.1)) in
      let all : us ≡ vs = lists-same p z.0.node us vs (subst (λ (q : Pair). ListsActions p q.world us) x-same listed)
      (subst (λ (q : Pair). ListsActions p q.world vs) y-same lists) in
      tried-same (Meets p (pairs_of kept) cut left) (Meets p (pairs_of others) cut left) (meets-same left) k us old s
      ((k, suc left) ∷ met) es after later fs since rest tried
      (subst (λ q. AreTried cut (Meets p (pairs_of others) cut left) k q ((k, suc left) ∷ met) fs since rest) (sym all) tries) t u

-- the root, and what is told of it
whole : (p : PlainProblem) (n : ℕ) (kept others : List KeptPair) (cut : Bool) (events told : List Event) → AreTrueEvents p [] events kept →
    AreTrueEvents p [] told others → AreInDepth p n (pairs_of kept) cut events → AreInDepth p n (pairs_of others) cut told
    → ((events ≡ told) × (kept ≡ others)) ⊎ OneEnds p kept others cut events told
unfolding AreInDepth
whole p n kept others cut [] told t u h k = absurd h
whole p n kept others cut (event.Kept j a i ∷ es) told t u h k = absurd h
whole p n kept others cut (event.Seen j a i ∷ es) told t u h k = absurd h
whole p n kept others cut (event.Pruned j a ∷ es) told t u h k = absurd h
whole p n kept others cut (event.RootKept ∷ es) [] t u h k = absurd k
whole p n kept others cut (event.RootPruned ∷ es) [] t u h k = absurd k
whole p n kept others cut (event.RootKept ∷ es) (event.Kept j a i ∷ fs) t u h k = absurd k
whole p n kept others cut (event.RootKept ∷ es) (event.Seen j a i ∷ fs) t u h k = absurd k
whole p n kept others cut (event.RootKept ∷ es) (event.Pruned j a ∷ fs) t u h k = absurd k
whole p n kept others cut (event.RootPruned ∷ es) (event.Kept j a i ∷ fs) t u h k = absurd k
whole p n kept others cut (event.RootPruned ∷ es) (event.Seen j a i ∷ fs) t u h k = absurd k
whole p n kept others cut (event.RootPruned ∷ es) (event.Pruned j a ∷ fs) t u h k = absurd k
whole p n kept others cut (event.RootKept ∷ es) (event.RootPruned ∷ fs) t u h k =
    absurd (t.1.2 (ap (λ (z : Pair). z.formula) (let q : Some t.1.0 ≡ Some u.1.0 = sym t.1.1 ∙ u.1.1 in let r : t.1.0 ≡ u.1.0 = cc in r) ∙
    u.1.2))
whole p n kept others cut (event.RootPruned ∷ es) (event.RootKept ∷ fs) t u h k =
    absurd (u.1.2 (ap (λ (z : Pair). z.formula) (let q : Some u.1.0 ≡ Some t.1.0 = sym u.1.1 ∙ t.1.1 in let r : u.1.0 ≡ t.1.0 = cc in r) ∙
    t.1.2))
whole p n kept others cut (event.RootPruned ∷ es) (event.RootPruned ∷ fs) t u h k =
    inl (
      ap (λ z. event.RootPruned ∷ z) (h ∙ sym k),
      sym (subst (λ z. AreTrueEvents p t.0 z kept) h t.2) ∙
          (t.1.4 ∙ (sym u.1.4 ∙ subst (λ z. AreTrueEvents p u.0 z others) k u.2)),
    )
whole p n kept others cut (event.RootKept ∷ es) (event.RootKept ∷ fs) t u h k =
    let root : t.1.0 ≡ u.1.0 = (let q : Some t.1.0 ≡ Some u.1.0 = sym t.1.1 ∙ u.1.1 in cc) in
    let same : t.0 ≡ u.0 = t.1.4 ∙ ((λ i. record { node = root i; path = [] } ∷ []) ∙ sym u.1.4) in
    let s = sound-event p [] event.RootKept t.0 t.1 sound-none in
    let l : length t.0 ≡ 1 = ap length t.1.4 in
    ended (meets-same p kept others cut n t.0 s 0 (omega (arith, l)) [] es h.0 [] fs k.0 [] h.1 k.1 t.2
    (subst (λ z. AreTrueEvents p z fs others) (sym same) u.2))
  where
    ended : Result p kept others cut t.0 es h.0 [] fs k.0 [] → ((event.RootKept ∷ es ≡ event.RootKept ∷ fs) × (kept ≡ others)) ⊎
        OneEnds p kept others cut (event.RootKept ∷ es) (event.RootKept ∷ fs)
    ended (inl a) = inl (ap (λ z. event.RootKept ∷ z) (a.first ∙ sym a.second), sym a.here ∙ a.there)
    ended (inr (c, inl g)) = inr (c, inl (g.0, ap (λ z. event.RootKept ∷ z) g.1, g.2))
    ended (inr (c, inr g)) = inr (c, inr (g.0, ap (λ z. event.RootKept ∷ z) g.1, g.2))

-- one list goes on where the other ends: not at all, or not further than where a pair is kept last
goes-nowhere : (p : PlainProblem) (kept others : List KeptPair) (events told : List Event) → (length kept < length others → ⊥) →
    EndsByKeeping others told → GoesOn p kept events others told → (events ≡ told) × (kept ≡ others)
goes-nowhere p kept others events told never ends ([], is, t) = (sym (is ∙ append-nil events), t)
goes-nowhere p kept others events told never ends (e ∷ rest, is, t) = absurd (never (longer p kept others events told e rest ends is t))

either-way : (p : PlainProblem) (kept others : List KeptPair) (events told : List Event) →
    (length kept < length others → GoesOn p kept events others told → ⊥) →
    (length others < length kept → GoesOn p others told kept events → ⊥) → EndsByKeeping kept events → EndsByKeeping others told
    → ((events ≡ told) × (kept ≡ others)) ⊎ OneEnds p kept others true events told → (events ≡ told) × (kept ≡ others)
either-way p kept others events told up down ends also (inl h) = h
either-way p kept others events told up down ends also (inr (c, inl g)) = goes-nowhere p kept others events told (λ l. up l g) also g
either-way p kept others events told up down ends also (inr (c, inr g)) = let h =
    goes-nowhere p others kept told events (λ l. down l g) ends g in (sym h.0, sym h.1)

uncut : (p : PlainProblem) (kept others : List KeptPair) (events told : List Event) → ((events ≡ told) × (kept ≡ others)) ⊎
    OneEnds p kept others false events told → (events ≡ told) × (kept ≡ others)
uncut p kept others events told (inl h) = h
uncut p kept others events told (inr (c, g)) = absurd (let b : ⊥ = cc in b)

-- the plan's pair is kept last in both
plan-twice : (p : PlainProblem) (kept others : List KeptPair) (events told : List Event) (plan : List Action) →
    AreTrueEvents p [] told others → HasLastPair p (pairs_of kept) plan → HasLastPair p (pairs_of others) plan →
    length kept < length others → GoesOn p kept events others told → ⊥
plan-twice p kept others events told plan u (i, x, n, at, is) (j, y, m, there, also) l g =
    let s = sound-events p [] told others u sound-none in
    let nk : length (pairs_of kept) ≡ length kept = length-map kept (λ (z : KeptPair). z.node) in
    let ko : length (pairs_of others) ≡ length others = length-map others (λ (z : KeptPair). z.node) in
    let a = get-inside kept i (omega (arith, nk, n)) in
    let b = get-inside others j (omega (arith, ko, m)) in
    let x-is : x ≡ a.0.node = get-one (pairs_of kept) i x a.0.node at (kept-pair kept i a.0 a.1) in
    let y-is : y ≡ b.0.node = get-one (pairs_of others) j y b.0.node there (kept-pair others j b.0 b.1) in
    let same : x ≡ y = (let q : Some x ≡ Some y = sym is ∙ also in cc) in
    let one : i ≡ j = s.differ i j a.0 b.0 (events-grow p kept g.0 others g.2 i a.0 a.1) b.1 (sym x-is ∙ (same ∙ y-is)) in
    omega (arith, l, n, m, one, nk, ko)

pub one-trace : (p : PlainProblem) (n b : ℕ) (kept others : List KeptPair) (events told : List Event) (o : Outcome) →
    AreDepthFirst p n b kept events o → AreDepthFirst p n b others told o → (events ≡ told) × (kept ≡ others)
one-trace p n b kept others events told (outcome.Plan plan) h k =
    either-way p kept others events told (plan-twice p kept others events told plan k.told h.stops.2 k.stops.2)
    (plan-twice p others kept told events plan h.told k.stops.2 h.stops.2) h.stops.1 k.stops.1
    (whole p n kept others true events told h.told k.told h.stops.0 k.stops.0)
one-trace p n b kept others events told outcome.NoPlan h k = uncut p kept others events told
    (whole p n kept others false events told h.told k.told h.stops k.stops)
one-trace p n b kept others events told outcome.NoneWithin h k = uncut p kept others events told
    (whole p n kept others false events told h.told k.told h.stops k.stops)
one-trace p n b kept others events told outcome.Spent h k =
    let i : length kept ≡ b + 1 = h.stops.2 in
    let j : length others ≡ b + 1 = k.stops.2 in
    either-way p kept others events told (λ l g. let z : ⊥ = omega (arith, l, i, j) in z)
    (λ l g. let z : ⊥ = omega (arith, l, i, j) in z) h.stops.1 k.stops.1
    (whole p n kept others true events told h.told k.told h.stops.0 k.stops.0)
