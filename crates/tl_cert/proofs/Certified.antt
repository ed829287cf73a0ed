-- The events of a breadth-first search that found no plan give a proof that covers the search space.
use Rattle.std.proofs.Common.{◌≡◌, ◌≢◌, ◌≤◌, ◌<◌, ◌+◌, ◌^◌, ◌⊎◌, ℕ, zero, suc, List, [], ◌∷◌, ◌++◌, length, take, slice_get, Option, Some}
use Rattle.std.proofs.Common.{None, refl, sym, ap, ap₂, ◌∙◌, subst, inl, inr, arith}
use Rattle.std.proofs.lemmas.Option.{slice_get_within}
use Rattle.tl_syntax.specs.declared.action.Action.{Action}
use Rattle.tl_syntax.specs.Lists.{Among, AtLeastOne}
use Rattle.tl_syntax.specs.Trees.{falsum}
use Rattle.tl_terms.specs.Acceptance.{IsAccepted}
use Rattle.tl_terms.specs.Pairs.{Pair, pair_of}
use Rattle.tl_terms.specs.Problem.{PlainProblem}
use Rattle.tl_search.specs.KeptPairs.{KeptPair}
use Rattle.tl_search.specs.PairGraph.{next_pair}
use Rattle.tl_search.specs.TrueEvents.{IsTrueEvent, AreTrueEvents}
use Rattle.tl_search.specs.declared.event.Event.{Event}
use Rattle.tl_search.specs.declared.event.Event.TheVariants as event
use Rattle.tl_search.specs.declared.outcome.Outcome.{Outcome}
use Rattle.tl_search.specs.declared.outcome.Outcome.TheVariants as outcome
use Rattle.tl_search.specs.declared.outcome.Report.{Report}
use Rattle.tl_search.proofs.ListLaws.{get-old, get-new, get-one, get-either, get-single, take-next}
use Rattle.tl_search.proofs.PathLaws.{pair-onward, walk-pair, walk-open, walk-accepted}
use Rattle.tl_search.proofs.WalkLaws.{length-snoc}
use Rattle.tl_cert.specs.Covers.{Covers, IsListedNear, IsNoFarther, IsRightNode, MustBeClosed, StaysInside}
use Rattle.tl_cert.specs.Links.{AreGood, IsWithinBound, Lists}
use Rattle.tl_cert.specs.LawsReadBack.{StartBefore}
use Rattle.tl_cert.specs.Reports.{bound_of, links_of, IsNoneReport, IsOf, IsRightNone, HasSmallStart}
use Rattle.tl_cert.specs.declared.proof.Link.{Link}
use Rattle.tl_cert.specs.declared.proof.Proof.{Proof}
use Rattle.tl_cert.proofs.GoodLinks.{lists-end}
use Rattle.tl_cert.proofs.Judged.{next-steps}

module _ (p : PlainProblem) where
  -- ---- the numbers of links

  -- with so many links before, of which each keeps a pair, an event that keeps one starts from a link before it or from the root
  pub events-start : (old : List KeptPair) (es : List Event) (new : List KeptPair) (before : ℕ) → AreTrueEvents p old es new →
      length old ≤ before + 1 → StartBefore before (links_of es)
  events-start old [] new before told few = tt
  events-start old (event.RootKept ∷ es) new before told few =
      let t = told.1 in
      let m : length told.0 ≡ 1 = ap length t.4 in
      events-start told.0 es new before told.2 (omega (arith, m))
  events-start old (event.RootPruned ∷ es) new before told few =
      let t = told.1 in
      let m : length told.0 ≡ 0 = ap length t.4 in
      events-start told.0 es new before told.2 (omega (arith, m))
  events-start old (event.Kept j a k ∷ es) new before told few =
      let t = told.1 in
      let here : j < length old = slice_get_within old j t.0 t.2 in
      let m : length told.0 ≡ suc (length old) = ap length t.7 ∙ length-snoc old (record { node = t.1; path = t.0.path ++ a ∷ [] }) in
      (omega (arith, here, few), events-start told.0 es new (before + 1) told.2 (omega (arith, m, few)))
  events-start old (event.Seen j a k ∷ es) new before told few =
      let t = told.1 in
      let m : length told.0 ≡ length old = ap length t.5 in
      events-start told.0 es new before told.2 (omega (arith, m, few))
  events-start old (event.Pruned j a ∷ es) new before told few =
      let t = told.1 in
      let m : length told.0 ≡ length old = ap length t.5 in
      events-start told.0 es new before told.2 (omega (arith, m, few))

  -- and there are no more of them than kept pairs
  pub events-few : (old : List KeptPair) (es : List Event) (new : List KeptPair) → AreTrueEvents p old es new →
      length (links_of es) + length old ≤ length new
  events-few old [] new told = let m : length old ≡ length new = ap length told in omega (arith, m)
  events-few old (event.RootKept ∷ es) new told =
      let t = told.1 in
      let n : length old ≡ 0 = ap length t.3 in
      let rest = events-few told.0 es new told.2 in
      omega (arith, n, rest)
  events-few old (event.RootPruned ∷ es) new told =
      let t = told.1 in
      let n : length old ≡ 0 = ap length t.3 in
      let rest = events-few told.0 es new told.2 in
      omega (arith, n, rest)
  events-few old (event.Kept j a k ∷ es) new told =
      let t = told.1 in
      let m : length told.0 ≡ suc (length old) = ap length t.7 ∙ length-snoc old (record { node = t.1; path = t.0.path ++ a ∷ [] }) in
      let rest = events-few told.0 es new told.2 in
      omega (arith, m, rest)
  events-few old (event.Seen j a k ∷ es) new told =
      let t = told.1 in
      let m : length told.0 ≡ length old = ap length t.5 in
      let rest = events-few told.0 es new told.2 in
      omega (arith, m, rest)
  events-few old (event.Pruned j a ∷ es) new told =
      let t = told.1 in
      let m : length told.0 ≡ length old = ap length t.5 in
      let rest = events-few told.0 es new told.2 in
      omega (arith, m, rest)

  -- ---- true events

  -- kept pairs keep their numbers
  event-stays : (old : List KeptPair) (e : Event) (new : List KeptPair) (i : ℕ) (x : KeptPair) → IsTrueEvent p old e new → slice_get old i ≡
      Some x → slice_get new i ≡ Some x
  event-stays old event.RootKept new i x t s = let d : slice_get [] i ≡ Some x = subst (λ zs. slice_get zs i ≡ Some x) t.3 s in let b : ⊥ =
      cc in absurd b
  event-stays old event.RootPruned new i x t s = let d : slice_get [] i ≡ Some x = subst (λ zs. slice_get zs i ≡ Some x) t.3 s in
      let b : ⊥ = cc in absurd b
  event-stays old (event.Kept j a k) new i x t s = subst (λ zs. slice_get zs i ≡ Some x) (sym t.7) (get-old old _ i x s)
  event-stays old (event.Seen j a k) new i x t s = subst (λ zs. slice_get zs i ≡ Some x) (sym t.5) s
  event-stays old (event.Pruned j a) new i x t s = subst (λ zs. slice_get zs i ≡ Some x) (sym t.5) s

  events-stay : (old : List KeptPair) (es : List Event) (new : List KeptPair) (i : ℕ) (x : KeptPair) → AreTrueEvents p old es new →
      slice_get old i ≡ Some x → slice_get new i ≡ Some x
  events-stay old [] new i x t s = subst (λ zs. slice_get zs i ≡ Some x) t s
  events-stay old (e ∷ es) new i x t s = events-stay t.0 es new i x t.2 (event-stays old e t.0 i x t.1 s)

  -- where the arrival of an action has its event, it is pruned or kept
  abbrev pub IsMet : List KeptPair → Pair → Type 0
  IsMet kept y = (y.formula ≡ falsum) ⊎ ((m : ℕ) × (z : KeptPair) × (slice_get kept m ≡ Some z) × (z.node ≡ y))

  event-meets : (old : List KeptPair) (e : Event) (new : List KeptPair) (j : ℕ) (a : Action) (x : KeptPair) (y : Pair) →
      IsTrueEvent p old e new → IsOf j a e → ((u : KeptPair) → slice_get old j ≡ Some u → u ≡ x) → next_pair p x.node a ≡ Some y →
      IsMet new y
  event-meets old event.RootKept new j a x y t o s n = absurd o
  event-meets old event.RootPruned new j a x y t o s n = absurd o
  event-meets old (event.Kept i b k) new j a x y t o s n =
      let u : t.0 ≡ x = s t.0 (subst (λ q. slice_get old q ≡ Some t.0) o.0 t.2) in
      let d : Some t.1 ≡ Some y = sym t.3 ∙ (ap₂ (λ (z : KeptPair) c. next_pair p z.node c) u o.1 ∙ n) in
      let node : KeptPair = record { node = t.1; path = t.0.path ++ b ∷ [] } in
      inr (length old, node, subst (λ zs. slice_get zs (length old) ≡ Some node) (sym t.7) (get-new old node), let q : t.1 ≡ y = cc in q)
  event-meets old (event.Seen i b k) new j a x y t o s n =
      let u : t.0 ≡ x = s t.0 (subst (λ q. slice_get old q ≡ Some t.0) o.0 t.2) in
      let d : Some t.1.node ≡ Some y = sym t.3 ∙ (ap₂ (λ (z : KeptPair) c. next_pair p z.node c) u o.1 ∙ n) in
      inr (k, t.1, subst (λ zs. slice_get zs k ≡ Some t.1) (sym t.5) t.4, let q : t.1.node ≡ y = cc in q)
  event-meets old (event.Pruned i b) new j a x y t o s n =
      let u : t.0 ≡ x = s t.0 (subst (λ q. slice_get old q ≡ Some t.0) o.0 t.2) in
      let d : Some t.1 ≡ Some y = sym t.3 ∙ (ap₂ (λ (z : KeptPair) c. next_pair p z.node c) u o.1 ∙ n) in
      inl (let q : t.1 ≡ y = cc in ap (λ (z : Pair). z.formula) (sym q) ∙ t.4)

  met-later : (old : List KeptPair) (es : List Event) (new : List KeptPair) (y : Pair) → AreTrueEvents p old es new → IsMet old y →
      IsMet new y
  met-later old es new y t (inl f) = inl f
  met-later old es new y t (inr m) = inr (m.0, m.1, events-stay old es new m.0 m.1 t m.2, m.3)

  events-meet : (old : List KeptPair) (es : List Event) (new : List KeptPair) (j : ℕ) (a : Action) (x : KeptPair) (y : Pair) →
      AreTrueEvents p old es new → AtLeastOne (IsOf j a) es → slice_get new j ≡ Some x → next_pair p x.node a ≡ Some y → IsMet new y
  events-meet old [] new j a x y t o s n = absurd o
  events-meet old (e ∷ es) new j a x y t (inl o) s n = met-later t.0 es new y t.2
      (event-meets old e t.0 j a x y t.1 o (λ u q. get-one new j u x (events-stay t.0 es new j u t.2 (event-stays old e t.0 j u t.1 q)) s)
      n)
  events-meet old (e ∷ es) new j a x y t (inr o) s n = events-meet t.0 es new j a x y t.2 o s n

  -- ---- the links of events

  -- the root was kept, or is pruned
  abbrev pub HasRoot : List KeptPair → Type 0
  HasRoot old = (0 < length old) ⊎ ((x : Pair) × (pair_of p [] ≡ Some x) × (x.formula ≡ falsum))

  module _ (bound : Option ℕ) where
    events-good : (old : List KeptPair) (es : List Event) (new : List KeptPair) → HasRoot old → AreTrueEvents p old es new →
        ((j : ℕ) (a : Action) (k : ℕ) (x : KeptPair) → Among (event.Kept j a k) es → slice_get new j ≡ Some x →
        IsWithinBound bound (x.path ++ a ∷ [])) → AreGood p bound old (links_of es) new
    events-good old [] new r t near = sym t
    events-good old (event.RootKept ∷ es) new r t near = absurd (by_root r)
      where
        by_root : HasRoot old → ⊥
        by_root (inl some) = let b : ⊥ = omega (arith, ap length t.1.3) in b
        by_root (inr h) = let d : Some t.1.0 ≡ Some h.0 = sym t.1.1 ∙ h.1 in let s : t.1.0 ≡ h.0 = cc in
            t.1.2 (ap (λ (z : Pair). z.formula) s ∙ h.2)
    events-good old (event.RootPruned ∷ es) new r t near =
        let same : t.0 ≡ old = t.1.4 ∙ sym t.1.3 in
        subst (λ zs. AreGood p bound zs (links_of es) new) same (events-good t.0 es new (subst HasRoot (sym same) r) t.2
        (λ j a k x m. near j a k x (inr m)))
    events-good old (event.Kept j a k ∷ es) new r t near =
        let node : KeptPair = record { node = t.1.1; path = t.1.0.path ++ a ∷ [] } in (
          node,
          record {
            from = t.1.0;
            is_from = t.1.2;
            leads = t.1.3;
            unpruned = t.1.4;
            new = t.1.5;
            path = refl;
            near = near j a k t.1.0 (inl refl) (events-stay old (event.Kept j a k ∷ es) new j t.1.0 t t.1.2);
          },
          subst (λ zs. AreGood p bound zs (links_of es) new) t.1.7 (events-good t.0 es new
              (inl (omega (arith, ap length t.1.7, length-snoc old node))) t.2 (λ i b m x h. near i b m x (inr h))),
        )
    events-good old (event.Seen j a k ∷ es) new r t near = subst (λ zs. AreGood p bound zs (links_of es) new) t.1.5
        (events-good t.0 es new (subst HasRoot (sym t.1.5) r) t.2 (λ i b m x h. near i b m x (inr h)))
    events-good old (event.Pruned j a ∷ es) new r t near = subst (λ zs. AreGood p bound zs (links_of es) new) t.1.5
        (events-good t.0 es new (subst HasRoot (sym t.1.5) r) t.2 (λ i b m x h. near i b m x (inr h)))

    events-list : (es : List Event) (kept : List KeptPair) → (es ≡ [] → ⊥) → AreTrueEvents p [] es kept →
        ((j : ℕ) (a : Action) (k : ℕ) (x : KeptPair) → Among (event.Kept j a k) es → slice_get kept j ≡ Some x →
        IsWithinBound bound (x.path ++ a ∷ [])) → Lists p bound (links_of es) kept
    events-list [] kept some t near = absurd (some refl)
    events-list (event.RootKept ∷ es) kept some t near = (
      t.0,
      (t.1.0, t.1.1, inr (t.1.2, t.1.4)),
      events-good t.0 es kept (inl (omega (arith, ap length t.1.4))) t.2 (λ j a k x m. near j a k x (inr m)),
    )
    events-list (event.RootPruned ∷ es) kept some t near = (
      t.0,
      (t.1.0, t.1.1, inl (t.1.2, t.1.4)),
      events-good t.0 es kept (inr (t.1.0, t.1.1, t.1.2)) t.2 (λ j a k x m. near j a k x (inr m)),
    )
    events-list (event.Kept j a k ∷ es) kept some t near = let b : ⊥ = cc in absurd b
    events-list (event.Seen j a k ∷ es) kept some t near = let b : ⊥ = cc in absurd b
    events-list (event.Pruned j a ∷ es) kept some t near = let b : ⊥ = cc in absurd b

    -- the paths of listed nodes are within the bound
    good-within : (old : List KeptPair) (links : List Link) (new : List KeptPair) → AreGood p bound old links new →
        ((i : ℕ) (x : KeptPair) → slice_get old i ≡ Some x → IsWithinBound bound x.path) → (i : ℕ) (x : KeptPair) → slice_get new i ≡
        Some x → IsWithinBound bound x.path
    good-within old [] new g h i x e = h i x (subst (λ zs. slice_get zs i ≡ Some x) g e)
    good-within old (link ∷ links) new g h i x e = good-within (old ++ g.0 ∷ []) links new g.2
        (λ j y f. elim (get-either old g.0 j y f) [
          | inl k ↦ h j y k
          | inr k ↦ subst
              (λ (z : KeptPair). IsWithinBound bound z.path) k.1 g.1.near
        ]) i x e

    lists-within : (links : List Link) (listed : List KeptPair) → IsWithinBound bound [] → Lists p bound links listed →
        (i : ℕ) (x : KeptPair) → slice_get listed i ≡ Some x → IsWithinBound bound x.path
    lists-within links listed empty l = good-within l.0 links listed l.2 (λ i x e. root i x e l.1.2)
      where
        root : (i : ℕ) (x : KeptPair) → slice_get l.0 i ≡ Some x → ((l.1.0.formula ≡ falsum) × (l.0 ≡ [])) ⊎
            ((l.1.0.formula ≢ falsum) × (l.0 ≡ record { node = l.1.0; path = [] } ∷ [])) → IsWithinBound bound x.path
        root i x e (inl a) = let d : slice_get [] i ≡ Some x = subst (λ zs. slice_get zs i ≡ Some x) a.1 e in let b : ⊥ = cc in absurd b
        root i x e (inr a) =
            let node : KeptPair = record { node = l.1.0; path = [] } in
            subst (λ (z : KeptPair). IsWithinBound bound z.path) (get-single node i x (subst (λ zs. slice_get zs i ≡ Some x) a.1 e)).1 empty

  -- ---- the proof of a report

  module _ (n : ℕ) (kept : List KeptPair) (report : Report) (r : IsNoneReport p n kept report) where
    some-event : report.events ≡ [] → ⊥
    some-event e = let d : [] ≡ r.begins.first ∷ r.begins.rest = sym e ∙ r.begins.begins in let b : ⊥ = cc in b

    within-of : (o : Outcome) (path : List Action) (a : Action) → length path < n → IsWithinBound (bound_of n o) (path ++ a ∷ [])
    within-of (outcome.Plan plan) path a less = omega (arith, length-snoc path a)
    within-of outcome.NoPlan path a less = tt
    within-of outcome.NoneWithin path a less = omega (arith, length-snoc path a)
    within-of outcome.Spent path a less = omega (arith, length-snoc path a)

    within-root : (o : Outcome) → IsWithinBound (bound_of n o) []
    within-root (outcome.Plan plan) = omega arith
    within-root outcome.NoPlan = tt
    within-root outcome.NoneWithin = omega arith
    within-root outcome.Spent = omega arith

    listed : Lists p (bound_of n report.outcome) (links_of report.events) kept
    listed = events-list (bound_of n report.outcome) report.events kept some-event r.told
        (λ j a k x m e. within-of report.outcome x.path a (r.near j a k x m e))

    module _ (k : ℕ) (x : KeptPair) (there : slice_get kept k ≡ Some x) where
      end : (pair_of p x.path ≡ Some x.node) × (x.node.formula ≢ falsum)
      end = lists-end p (bound_of n report.outcome) (links_of report.events) kept listed k x there

      -- its path is a plan where it is accepted
      not-accepted : (o : Outcome) → IsRightNone p n o → IsWithinBound (bound_of n o) x.path → IsAccepted p x.path → ⊥
      not-accepted (outcome.Plan plan) h w a = h
      not-accepted outcome.NoPlan h w a = h.0 x.path a
      not-accepted outcome.NoneWithin h w a = h x.path w a
      not-accepted outcome.Spent h w a = h

      -- it has fewer than n actions where it has to be closed
      asked-short : (o : Outcome) → IsRightNone p n o → MustBeClosed (bound_of n o) x.path → length x.path < n
      asked-short (outcome.Plan plan) h m = absurd h
      asked-short outcome.NoPlan h m = h.1 x.node (length x.path) (r.shortest k x there)
      asked-short outcome.NoneWithin h m = m
      asked-short outcome.Spent h m = absurd h

      no-farther : (bound : Option ℕ) (a : Action) (m : ℕ) (z : KeptPair) (y : Pair) → next_pair p x.node a ≡ Some y → slice_get kept m ≡
          Some z → z.node ≡ y → IsNoFarther bound x.path z.path
      no-farther None a m z y e s q = tt
      no-farther (Some b) a m z y e s q =
          let d = r.shortest m z s in
          let is_pair : pair_of p (x.path ++ a ∷ []) ≡ Some z.node = pair-onward p x.path a x.node end.0 ∙ (e ∙ ap Some (sym q)) in
          let unpruned = (lists-end p (bound_of n report.outcome) (links_of report.events) kept listed m z s).1 in
          let least : length z.path ≤ length (x.path ++ a ∷ []) = d.least (x.path ++ a ∷ [])
          ((walk-open p (x.path ++ a ∷ [])).1 (z.node, (walk-pair p (x.path ++ a ∷ []) z.node).1 (is_pair, unpruned))) is_pair in
          omega (arith, length-snoc x.path a)

      stays : MustBeClosed (bound_of n report.outcome) x.path → (a : Action) → StaysInside p (bound_of n report.outcome) kept x a
      stays m a y e = by_met (events-meet [] report.events kept k a x y r.told
          (r.arrivals k x a there (asked-short report.outcome r.none m) (next-steps p x.node a y e)) there e)
        where
          by_met : IsMet kept y → (y.formula ≡ falsum) ⊎ IsListedNear (bound_of n report.outcome) kept x.path y
          by_met (inl f) = inl f
          by_met (inr h) = inr (h.0, h.1, h.2, h.3, no-farther (bound_of n report.outcome) a h.0 h.1 y e h.2 h.3)

      is-right : IsRightNode p (bound_of n report.outcome) kept x
      is-right = record {
        unaccepted = λ h. not-accepted report.outcome r.none (lists-within (bound_of n report.outcome) (links_of report.events) kept
            (within-root report.outcome) listed k x there) ((walk-accepted p x.path).1 (x.node, (walk-pair p x.path x.node).1 end, h));
        closed = stays;
      }

    pub certified : (proof : Proof) → proof.bound ≡ bound_of n report.outcome → proof.links ≡ links_of report.events → Covers p proof
    certified proof e f = record {
      listed = kept;
      lists = subst (λ b. Lists p b proof.links kept) (sym e) (subst (λ ls. Lists p (bound_of n report.outcome) ls kept) (sym f) listed);
      right = λ k x s. subst (λ b. IsRightNode p b kept x) (sym e) (is-right k x s);
    }

-- ---- links from events, one after another

pub links-more : (es : List Event) (k : ℕ) (e : Event) → slice_get es k ≡ Some e → links_of (take (k + 1) es) ≡ links_of (take k es) ++
    links_of (e ∷ [])
links-more es k e at = ap links_of (take-next es k e at) ∙ links-both (take k es) (e ∷ [])
  where
    links-both : (us vs : List Event) → links_of (us ++ vs) ≡ links_of us ++ links_of vs
    links-both [] vs = refl
    links-both (event.RootKept ∷ us) vs = links-both us vs
    links-both (event.RootPruned ∷ us) vs = links-both us vs
    links-both (event.Kept j a k ∷ us) vs = ap (λ ls. record { from = j; action = a } ∷ ls) (links-both us vs)
    links-both (event.Seen j a k ∷ us) vs = links-both us vs
    links-both (event.Pruned j a ∷ us) vs = links-both us vs

-- the pairs that events start from are kept, so their numbers are small where few pairs are kept
pub events-small : (p : PlainProblem) (old : List KeptPair) (es : List Event) (new : List KeptPair) (k : ℕ) (e : Event) →
    AreTrueEvents p old es new → slice_get es k ≡ Some e → length new < 2 ^ 32 → HasSmallStart e
events-small p old [] new k e t at few = let b : ⊥ = cc in absurd b
events-small p old (f ∷ es) new (suc k) e t at few = events-small p t.0 es new k e t.2 at few
events-small p old (f ∷ es) new zero e t at few = subst HasSmallStart (let d : f ≡ e = cc in d) (small f t.1)
  where
    small : (g : Event) → IsTrueEvent p old g t.0 → HasSmallStart g
    small event.RootKept u = tt
    small event.RootPruned u = tt
    small (event.Kept j a m) u =
        let l : j < length new = slice_get_within new j u.0 (events-stay p t.0 es new j u.0 t.2
        (event-stays p old (event.Kept j a m) t.0 j u.0 u u.2)) in
        omega arith
    small (event.Seen j a m) u = tt
    small (event.Pruned j a) u = tt
