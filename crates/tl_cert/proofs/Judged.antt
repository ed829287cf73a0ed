-- What the parts of the check of a proof answer.
use Rattle.std.proofs.Common.{◌≡◌, ◌≤◌, ◌<◌, ◌+◌, ◌^◌, ◌⊎◌, ℕ, suc, List, [], ◌∷◌, ◌++◌, length, take, drop, slice_get, slice_index, Bool}
use Rattle.std.proofs.Common.{true, false, Option, Some, None, is_some, Less, Equal, Greater, refl, sym, ap, ◌∙◌, subst, inl, inr, arith}
use Rattle.std.specs.Option.{option_map}
use Rattle.std.specs.Ordering.{ordering_reverse}
use Rattle.std.specs.Cmp.{tied_itself}
use Rattle.std.proofs.lemmas.Option.{slice_get_within, get_or_from_slice_get}
use Rattle.tl_syntax.specs.declared.action.Action.{Action}
use Rattle.tl_syntax.specs.Lists.{Among, Rises}
use Rattle.tl_syntax.specs.Trees.{falsum}
use Rattle.tl_syntax.proofs.ListLaws.{Each-Among, One-append}
use Rattle.tl_terms.specs.Orders.{action_cmp}
use Rattle.tl_terms.specs.Pairs.{Pair, pair_of}
use Rattle.tl_terms.specs.Problem.{PlainProblem}
use Rattle.tl_terms.specs.Step.{step}
use Rattle.tl_terms.specs.World.{World}
use Rattle.tl_terms.proofs.OrderLaws.{actions-total}
use Rattle.tl_search.specs.Arrivals.{Arrives}
use Rattle.tl_search.specs.Calls.{ChildArrives, ForPair, IsExecutableAt, ListsActionsAt}
use Rattle.tl_search.specs.Kept.{AreKept}
use Rattle.tl_search.specs.KeptPairs.{KeptPair}
use Rattle.tl_search.specs.ListedActions.{ListsActions}
use Rattle.tl_search.specs.PairGraph.{pair_in, next_pair, pair_graph}
use Rattle.tl_search.specs.declared.arrival.Arrival.{Arrival}
use Rattle.tl_search.specs.declared.arrival.Arrival.TheVariants as arrival
use Rattle.tl_search.proofs.EventLaws.{last-differs}
use Rattle.tl_search.proofs.ListLaws.{get-old, get-one, get-inside, get-single, rises-behind, take-next, split-at, among-new}
use Rattle.tl_search.proofs.PathLaws.{walk-pair}
use Rattle.tl_search.proofs.WalkLaws.{length-snoc}
use Rattle.tl_world.specs.declared.task.Task.{Task}
use Rattle.tl_cert.specs.Checking.{AreShort, depths_of, goes_on, is_no_farther, AreKnownActions, IsRightSoFar, ListsLink, TellsInside}
use Rattle.tl_cert.specs.Checking.{TellsClosed}
use Rattle.tl_cert.specs.Covers.{IsListedNear, IsNoFarther, StaysInside}
use Rattle.tl_cert.specs.Links.{IsGood, IsWithinBound, ListsRoot}
use Rattle.tl_cert.specs.Verdicts.{LeadsOut}
use Rattle.tl_cert.specs.declared.checking.Checking.{Checking}
use Rattle.tl_cert.specs.declared.known.NodeActions.{NodeActions}
use Rattle.tl_cert.specs.declared.proof.Link.{Link}
use Rattle.tl_cert.proofs.Depths.{depth-kept, depth-some, depths-more, goes-within, stops-within, near-test, far-test}
use Rattle.tl_cert.proofs.GoodLinks.{short-more}

-- an action that leads to a pair has a step
pub next-steps : (p : PlainProblem) (x : Pair) (a : Action) (y : Pair) → next_pair p x a ≡ Some y → is_some (step p x.world a) ≡ true
next-steps p x a y e = by_step (step p x.world a) e
  where
    by_step : (o : Option World) → option_map (pair_in p x.formula) o ≡ Some y → is_some o ≡ true
    by_step None q = let b : ⊥ = cc in absurd b
    by_step (Some w) q = refl

module _ (p : PlainProblem) (bound : Option ℕ) (old : List KeptPair) where
  -- ---- a link

  module _ (link : Link) (d : ℕ) (at : slice_get (depths_of old) link.from ≡ Some d) where
    pub from : (x : KeptPair) × (slice_get old link.from ≡ Some x) × (length x.path ≡ d)
    from = depth-some old link.from d at

    -- the node of a good link starts from this one
    same-from : (next : KeptPair) (g : IsGood p bound old link next) → g.from ≡ from.0
    same-from next g = get-one old link.from g.from from.0 g.is_from from.1

    pub link-stops : goes_on bound d ≡ false → ListsLink p bound old old link false
    link-stops t next g = stops-within bound d from.0.path link.action from.2 t
        (subst (IsWithinBound bound) (g.path ∙ ap (λ (z : KeptPair). z.path ++ link.action ∷ []) (same-from next g)) g.near)

    pub link-without-step : (IsExecutableAt p old link.from link.action → ⊥) → ListsLink p bound old old link false
    link-without-step n next g = n (λ x e. let same : g.from ≡ x = get-one old link.from g.from x g.is_from e in
        next-steps p x.node link.action next.node (ap (λ (z : KeptPair). next_pair p z.node link.action) (sym same) ∙ g.leads))

    module _ (new : List KeptPair) where
      pub link-pruned : Arrives old new (next_pair p from.0.node link.action) (from.0.path ++ link.action ∷ []) arrival.Pruned →
          ListsLink p bound old new link false
      link-pruned h next g =
          let e : Some next.node ≡ Some h.1.0 = sym g.leads ∙ (ap (λ (z : KeptPair). next_pair p z.node link.action) (same-from next g) ∙
          h.1.1) in
          let s : next.node ≡ h.1.0 = cc in
          g.unpruned (ap (λ (z : Pair). z.formula) s ∙ h.1.2)

      pub link-seen : (k : ℕ) → Arrives old new (next_pair p from.0.node link.action) (from.0.path ++ link.action ∷ []) (arrival.Seen k) →
          ListsLink p bound old new link false
      link-seen k h next g =
          let e : Some next.node ≡ Some h.1.0.node = sym g.leads ∙ (ap (λ (z : KeptPair). next_pair p z.node link.action)
          (same-from next g) ∙ h.1.2) in
          g.new k h.1.0 h.1.1 (let s : h.1.0.node ≡ next.node = cc in s)

      pub link-fresh : (k : ℕ) → goes_on bound d ≡ true → AreKept (pair_graph p) new →
          Arrives old new (next_pair p from.0.node link.action) (from.0.path ++ link.action ∷ []) (arrival.Fresh k) →
          ListsLink p bound old new link true
      link-fresh k t all h =
          let next : KeptPair = record { node = h.1.0; path = from.0.path ++ link.action ∷ [] } in (
            next,
            record {
              from = from.0;
              is_from = from.1;
              leads = h.1.1;
              unpruned = h.1.2;
              new = last-differs p old new next all h.1.3;
              path = refl;
              near = goes-within bound d from.0.path link.action from.2 t;
            },
            h.1.3,
          )

  -- ---- an action of a listed node

  module _ (at : ℕ) (x : KeptPair) (there : slice_get old at ≡ Some x) (a : Action) (new : List KeptPair) where
    for-node : (P : KeptPair → Type 0) → P x → ForPair old at P
    for-node P h y e = subst P (get-one old at x y there e) h

    pub inside-pruned : Arrives old new (next_pair p x.node a) (x.path ++ a ∷ []) arrival.Pruned → TellsInside p bound old at a true
    inside-pruned h = for-node (λ z. StaysInside p bound old z a) (λ y e.
        inl (let q : Some y ≡ Some h.1.0 = sym e ∙ h.1.1 in let s : y ≡ h.1.0 = cc in ap (λ (z : Pair). z.formula) s ∙ h.1.2))

    pub inside-fresh : (k : ℕ) → AreKept (pair_graph p) new → Arrives old new (next_pair p x.node a) (x.path ++ a ∷ []) (arrival.Fresh k) →
        TellsInside p bound old at a false
    inside-fresh k all h = for-node (λ z. LeadsOut p bound old z a) (record {
      next = h.1.0;
      leads = h.1.1;
      unpruned = h.1.2;
      unlisted = λ m. last-differs p old new (record { node = h.1.0; path = x.path ++ a ∷ [] }) all h.1.3 m.0 m.1 m.2 m.3;
    })

    pub inside-seen : (k : ℕ) → AreKept (pair_graph p) old → Arrives old new (next_pair p x.node a) (x.path ++ a ∷ []) (arrival.Seen k) →
        TellsInside p bound old at a (is_no_farther bound (slice_index (depths_of old) at) (slice_index (depths_of old) k))
    inside-seen k all h = subst (TellsInside p bound old at a) (sym same_test)
        (by_test (is_no_farther bound (length x.path) (length z.path)) refl)
      where
        z : KeptPair
        z = h.1.0

        depth-at : (i : ℕ) (y : KeptPair) → slice_get old i ≡ Some y → slice_index (depths_of old) i ≡ length y.path
        depth-at i y e = get_or_from_slice_get (depths_of old) i (length y.path) 0 (depth-kept old i y e)

        same_test : is_no_farther bound (slice_index (depths_of old) at) (slice_index (depths_of old) k) ≡
            is_no_farther bound (length x.path) (length z.path)
        same_test = ap (λ n. is_no_farther bound n (slice_index (depths_of old) k)) (depth-at at x there) ∙
            ap (is_no_farther bound (length x.path)) (depth-at k z h.1.1)

        by_test : (b : Bool) → is_no_farther bound (length x.path) (length z.path) ≡ b → TellsInside p bound old at a b
        by_test true t = for-node (λ u. StaysInside p bound old u a) (λ y e.
            inr (
              k,
              z,
              h.1.1,
              (let q : Some z.node ≡ Some y = sym h.1.2 ∙ e in let s : z.node ≡ y = cc in s),
              near-test bound x.path z.path t,
            ))
        by_test false t = for-node (λ u. LeadsOut p bound old u a) (record {
          next = z.node;
          leads = h.1.2;
          unpruned = ((walk-pair p z.path z.node).0 (all.walks k z h.1.1)).1;
          unlisted = λ m. far-test bound x.path z.path t (let i : m.0 ≡ k = all.differ m.0 k m.1 z m.2 h.1.1 m.3 in let s : m.1 ≡ z =
              get-one old k m.1 z (subst (λ j. slice_get old j ≡ Some m.1) i m.2) h.1.1 in
              subst (λ (u : KeptPair). IsNoFarther bound x.path u.path) s m.4);
        })

  -- ---- all actions of a listed node

  -- the listed actions of this list stay inside at the node
  abbrev pub AreInside : ℕ → List Action → Type 0
  AreInside at tried = ForPair old at (λ x. (b : Action) → Among b tried → StaysInside p bound old x b)

  module _ (at : ℕ) (listed : List Action) (lists : ListsActionsAt p old at listed) where
    pub inside-more : (k : ℕ) (a : Action) → slice_get listed k ≡ Some a → AreInside at (take k listed) →
        TellsInside p bound old at a true → AreInside at (take (k + 1) listed)
    inside-more k a turn h t x e b m = elim (among-new b a (take k listed)
        (subst (Among b) (take-next listed k a turn) m)) [ inl i ↦ h x e b i | inr i ↦ subst (StaysInside p bound old x) i (t x e) ]

    pub inside-all : (k : ℕ) → take k listed ≡ listed → AreInside at (take k listed) → TellsClosed p bound old at None
    inside-all k all h x e a y f = h x e a (subst (Among a) (sym all) (((lists x e).exact a).1 (next-steps p x.node a y f))) y f

    pub first-out : (k : ℕ) (a : Action) → slice_get listed k ≡ Some a → AreInside at (take k listed) → TellsInside p bound old at a false →
        TellsClosed p bound old at (Some a)
    first-out k a turn h t x e = record { out = t x e; first = before }
      where
        whole : take k listed ++ a ∷ drop (suc k) listed ≡ listed
        whole = split-at listed k a turn

        before : (b : Action) → action_cmp b a ≡ Less → StaysInside p bound old x b
        before b less y f = by_place ((One-append (λ z. z ≡ b) (take k listed) (a ∷ drop (suc k) listed)).0
            (subst (Among b) (sym whole) (((lists x e).exact b).1 (next-steps p x.node b y f))))
          where
            by_place : Among b (take k listed) ⊎ Among b (a ∷ drop (suc k) listed) → (y.formula ≡ falsum) ⊎ IsListedNear bound old x.path y
            by_place (inl m) = h x e b m y f
            by_place (inr (inl same)) = let q : Less ≡ Equal = sym less ∙
                (ap (λ z. action_cmp z a) (sym same) ∙ tied_itself actions-total.total a) in let c : ⊥ = cc in absurd c
            by_place (inr (inr m)) =
                let later : action_cmp a b ≡ Less = (Each-Among (λ z. action_cmp a z ≡ Less) (drop (suc k) listed)).0
                (rises-behind action_cmp actions-total (take k listed) a (drop (suc k) listed)
                (subst (Rises action_cmp) (sym whole) (lists x e).rises)) b m in
                let q : Less ≡ Greater = sym less ∙ (actions-total.total.antisymm b a ∙ ap ordering_reverse later) in
                let c : ⊥ = cc in
                absurd c

-- ---- the root

-- the root that is kept is listed alone
pub root-fresh : (p : PlainProblem) (old new : List KeptPair) (k : ℕ) → old ≡ [] → Arrives old new (pair_of p []) [] (arrival.Fresh k) →
    ListsRoot p new × (depths_of new ≡ 0 ∷ []) × AreShort new
root-fresh p old new k e h =
    let node : KeptPair = record { node = h.1.0; path = [] } in
    let one : new ≡ node ∷ [] = h.1.3 ∙ ap (λ zs. zs ++ node ∷ []) e in (
      (h.1.0, h.1.1, inr (h.1.2, one)),
      ap depths_of one,
      λ i x s. (let d = (get-single node i x (subst (λ zs. slice_get zs i ≡ Some x) one s)).1 in let q : length x.path ≡ 0 =
          ap (λ (z : KeptPair). length z.path) (sym d) in omega (arith, q)),
    )

-- where it is pruned nothing is listed
pub root-pruned : (p : PlainProblem) (old new : List KeptPair) → old ≡ [] → Arrives old new (pair_of p []) [] arrival.Pruned →
    ListsRoot p new × (depths_of new ≡ []) × AreShort new
root-pruned p old new e h =
    let none : new ≡ [] = h.0 ∙ e in (
      (h.1.0, h.1.1, inl (h.1.2, none)),
      ap depths_of none,
      λ i x s. (let d : slice_get [] i ≡ Some x = subst (λ zs. slice_get zs i ≡ Some x) none s in let b : ⊥ = cc in absurd b),
    )

-- ---- over what a call before left the same

pub tells-over : (p q : PlainProblem) (bound : Option ℕ) (old kept : List KeptPair) (at : ℕ) (a : Action) (b c : Bool) → q ≡ p → kept ≡
    old → b ≡ c → TellsInside q bound kept at a b → TellsInside p bound old at a c
tells-over p q bound old kept at a b c e f g h = subst (λ r. TellsInside r bound old at a c) e
    (subst (λ zs. TellsInside q bound zs at a c) f (subst (TellsInside q bound kept at a) g h))

pub arrives-over : (p q : PlainProblem) (old kept new : List KeptPair) (at : ℕ) (a : Action) (r : Arrival) → q ≡ p → kept ≡ old →
    ChildArrives q kept new at a r → ChildArrives p old new at a r
arrives-over p q old kept new at a r e f h = subst (λ s. ChildArrives s old new at a r) e (subst (λ zs. ChildArrives q zs new at a r) f h)

-- what is known of a node stays so where a node is added
pub known-more : (task : Task) (p : PlainProblem) (old new : List KeptPair) (x : KeptPair) (known : Option NodeActions) → new ≡ old ++
    x ∷ [] → AreKnownActions task p old known → AreKnownActions task p new known
known-more task p old new x None e h = tt
known-more task p old new x (Some known) e h = record {
  inside = omega (arith, h.inside, ap length e, length-snoc old x);
  actions = λ y s. (
      let z = get-inside old known.at h.inside in
      let t : slice_get new known.at ≡ Some z.0 = subst (λ zs. slice_get zs known.at ≡ Some z.0) (sym e)
      (get-old old (x ∷ []) known.at z.0 z.1) in
      subst (λ (w : KeptPair). ListsActions p w.node.world known.actions) (get-one new known.at z.0 y t s) (h.actions z.0 z.1));
  named = h.named;
}

-- a good link leaves what is known right
pub ready-more : (task : Task) (p : PlainProblem) (bound : Option ℕ) (old new : List KeptPair) (link : Link) (d : ℕ) (c : Checking) →
    slice_get (depths_of old) link.from ≡ Some d → AreShort old → AreKnownActions task p old c.known → c.depths ≡ depths_of old ++
    (d + 1) ∷ [] → ListsLink p bound old new link true → IsRightSoFar task p new c
ready-more task p bound old new link d c at short known depths h = record {
  depths = depths ∙ (ap (λ n. depths_of old ++ n ∷ []) (sym long) ∙ (sym (depths-more old h.0) ∙ ap depths_of (sym h.2)));
  short = subst AreShort (sym h.2) (short-more p bound old link h.0 h.1 short);
  known = known-more task p old new h.0 c.known h.2 known;
}
  where
    from' : (x : KeptPair) × (slice_get old link.from ≡ Some x) × (length x.path ≡ d)
    from' = depth-some old link.from d at

    long : length h.0.path ≡ d + 1
    long =
        let q : length h.0.path ≡ suc (length h.1.from.path) = ap length h.1.path ∙ length-snoc h.1.from.path link.action in
        let s : length h.1.from.path ≡ d = ap (λ (z : KeptPair). length z.path)
        (get-one old link.from h.1.from from'.0 h.1.is_from from'.1) ∙ from'.2 in
        omega (arith, q, s)

-- the depth of a node has 32 bits where its number and those of all nodes have
pub depth-small : (old : List KeptPair) (at d : ℕ) → slice_get (depths_of old) at ≡ Some d → AreShort old → length old < 2 ^ 32 →
    d + 1 < 2 ^ 32
depth-small old at d e short few =
    let x = depth-some old at d e in
    let l : at < length old = slice_get_within old at x.0 x.1 in
    let m : length x.0.path ≤ at = short at x.0 x.1 in
    omega (arith, l, m, x.2, few)

pub links-over : (p q : PlainProblem) (bound other : Option ℕ) (old new : List KeptPair) (link : Link) (b c : Bool) → q ≡ p → other ≡
    bound → b ≡ c → ListsLink q other old new link b → ListsLink p bound old new link c
links-over p q bound other old new link b c e f g h = subst (λ r. ListsLink r bound old new link c) e
    (subst (λ o. ListsLink q o old new link c) f (subst (ListsLink q other old new link) g h))

pub closed-over : (p q : PlainProblem) (bound : Option ℕ) (old kept : List KeptPair) (at : ℕ) (o : Option Action) → q ≡ p → kept ≡ old →
    TellsClosed q bound kept at o → TellsClosed p bound old at o
closed-over p q bound old kept at o e f h = subst (λ r. TellsClosed r bound old at o) e (subst (λ zs. TellsClosed q bound zs at o) f h)

-- one more node is listed
pub link-length : (p : PlainProblem) (bound : Option ℕ) (old new : List KeptPair) (link : Link) → ListsLink p bound old new link true →
    length new ≡ length old + 1
link-length p bound old new link h = let e = ap length h.2 in omega (arith, e, length-snoc old h.0)
