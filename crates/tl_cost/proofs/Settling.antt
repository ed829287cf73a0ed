-- The first of the open list is settled, its actions are listed, and an action is tried that leads to nothing new.
use Rattle.std.proofs.Common.{◌≡◌, ◌⊎◌, ℕ, ◌+◌, Bool, true, false, List, [], ◌∷◌, length, slice_get, Option, Some, None, IsTrue, is_some}
use Rattle.std.proofs.Common.{refl, sym, ap, ◌∙◌, subst, inl, inr, arith}
use native.Mathlib.Decide.{ℕ_discrete}
use Rattle.std.specs.Option.{option_map}
use Rattle.tl_syntax.specs.declared.action.Action.{Action}
use Rattle.tl_syntax.specs.Lists.{Among}
use Rattle.tl_terms.specs.Orders.{action_cmp}
use Rattle.tl_terms.specs.Pairs.{Pair, IsPairAccepted}
use Rattle.tl_terms.specs.Problem.{PlainProblem}
use Rattle.tl_terms.specs.Step.{step}
use Rattle.tl_terms.specs.World.{World}
use Rattle.tl_terms.proofs.OrderLaws.{actions-total}
use Rattle.tl_world.specs.declared.task.Task.{Task}
use Rattle.tl_search.specs.KeptPairs.{KeptPair}
use Rattle.tl_search.specs.ListedActions.{ListsActions}
use Rattle.tl_search.specs.PairGraph.{pair_in, next_pair, pair_graph}
use Rattle.tl_search.proofs.ListLaws.{get-one, decide_among}
use Rattle.tl_search.proofs.PathLaws.{unless-pruned}
use Rattle.tl_cost.specs.Ongoing.{IsAt, HasWay, IsLinked, IsUntried, IsOngoing}
use Rattle.tl_cost.specs.PlanCosts.{action_cost, plan_cost}
use Rattle.tl_cost.specs.Ways.{ComesNoLater, Drops, entry_of}
use Rattle.tl_cost.specs.declared.open_list.Entry.{Entry}
use Rattle.tl_cost.specs.declared.ways.Way.{Way}
use Rattle.tl_cost.specs.declared.ways.LastStep.{LastStep}
use Rattle.tl_cost.proofs.CostOrder.{upto-refl, upto-trans, upto-from}
use Rattle.tl_cost.proofs.Reach.{first-cheap, first-least}

-- one number has one pair and one way
pub at-one : (kept : List KeptPair) (ways : List Way) (k j : ℕ) (x y : KeptPair) (v w : Way) → IsAt kept ways k x v → IsAt kept ways j y w →
    k ≡ j → (x ≡ y) × (v ≡ w)
at-one kept ways k j x y v w h i e = (
  get-one kept j x y (subst (λ n. slice_get kept n ≡ Some x) e h.pair) i.pair,
  get-one ways j v w (subst (λ n. slice_get ways n ≡ Some v) e h.way) i.way,
)

-- a link to a settled pair stays where settled pairs stay so
pub linked-on : (p : PlainProblem) (costs : List ℕ) (kept more : List KeptPair) (ways other : List Way) (old new : Entry → Bool) (k : ℕ)
    (x : Pair) (w : Way) (last : Option LastStep) → ((j : ℕ) (y : KeptPair) (v : Way) → IsAt kept ways j y v → old (entry_of v j) ≡ false →
    IsAt more other j y v × (new (entry_of v j) ≡ false)) → IsLinked p costs kept ways old k x w last →
    IsLinked p costs more other new k x w last
linked-on p costs kept more ways other old new k x w None stay h = h
linked-on p costs kept more ways other old new k x w (Some last) stay h =
    let t = stay last.from h.before h.its_way h.is_at h.settled in
    record { before = h.before; its_way = h.its_way; is_at = t.0; settled = t.1; leads = h.leads; cost = h.cost; longer = h.longer }

module _ (p : PlainProblem) (task : Task) (costs : List ℕ) (b : ℕ) (kept : List KeptPair) (ways : List Way) (open_ : Entry → Bool)
    (opened cost length_ at : ℕ) (s : IsOngoing p task costs b kept ways open_ opened cost length_ at (Some [])) (e : Entry)
    (listed : open_ e ≡ true) (first : (q : Entry) → open_ q ≡ true → ComesNoLater e.cost e.length q.cost q.length) (left : Entry → Bool)
    (d : Drops open_ left e) (fewer : ℕ) (len : fewer + 1 ≡ opened) where
  settled-now : (k : ℕ) (w : Way) → left (entry_of w k) ≡ false → (k ≡ e.number) ⊎ (open_ (entry_of w k) ≡ false)
  settled-now k w h = elim (ℕ_discrete k e.number) [
    | yes same ↦ inl same
    | no other ↦ inr
        (sym (d.others (entry_of w k) (λ q. other (ap (λ (u : Entry). u.number) q))) ∙ h)
  ]

  listed-before : (q : Entry) → left q ≡ true → open_ q ≡ true
  listed-before q h = sym (d.others q (λ z. (let f : true ≡ false = sym h ∙ (ap left z ∙ d.is) in let c : ⊥ = cc in c))) ∙ h

  settled-still : (q : Entry) → open_ q ≡ false → left q ≡ false
  settled-still q h = d.others q (λ z. (let f : true ≡ false = sym listed ∙ (ap open_ (sym z) ∙ h) in let c : ⊥ = cc in c)) ∙ h

  -- it is the turn of its pair
  pub settle-first : (x : KeptPair) (w : Way) → IsAt kept ways e.number x w → e ≡ entry_of w e.number →
      IsOngoing p task costs b kept ways left fewer w.cost w.length e.number None
  settle-first x w here is = record {
    are_kept = s.are_kept;
    as_many = s.as_many;
    some = s.some;
    few = s.few;
    root = s.root;
    reached = s.reached;
    linked = λ k y v i. linked-on p costs kept kept ways ways open_ left k y.node v v.last
        (λ j z u h t. (h, settled-still (entry_of u j) t)) (s.linked k y v i);
    named = s.named;
    small = s.small;
    short = λ k v i. (let q = s.short k v i in omega (arith, q));
    settled_short = λ k v i h. (let q = s.short k v i in omega (arith, q));
    exact = λ q h. s.exact q (listed-before q h);
    least = λ k y v i h path f. elim (settled-now k v h) [
      | inl same ↦ (let t = at-one kept ways k e.number y x v w i here same in
          upto-from v.cost v.length e.cost e.length (plan_cost costs path) (length path) (ap (λ (u : Way). u.cost) t.1 ∙ sym cost-is)
          (ap (λ (u : Way). u.length) t.1 ∙ sym length-is) (first-least p task costs b kept ways open_ opened cost length_ at s e first x w
          here is listed path (f ∙ ap (λ (u : KeptPair). Some u.node) t.0)))
      | inr old ↦ s.least k y v i old path f
    ];
    below = λ k y v i h. elim (settled-now k v h) [
      | inl same ↦ (let t = at-one kept ways k e.number y x v w i here same in
          upto-from v.cost v.length w.cost w.length w.cost w.length (ap (λ (u : Way). u.cost) t.1) (ap (λ (u : Way). u.length) t.1)
          (upto-refl w.cost w.length))
      | inr old ↦ upto-trans v.cost v.length cost length_ w.cost w.length (s.below k y v i old)
          (s.above e.number x w here (ap open_ (sym is) ∙ listed))
    ];
    above = λ k y v i h. upto-from w.cost w.length e.cost e.length v.cost v.length (sym cost-is) (sym length-is)
        (first (entry_of v k) (listed-before (entry_of v k) h));
    closed = λ k y v a z i h untried f. elim (settled-now k v h) [
      | inl same ↦ absurd (untried same)
      | inr old ↦ s.closed k y v a z i old
          (λ u. u.1) f
    ];
    none = λ k y v i h tested. elim (settled-now k v h) [ inl same ↦ absurd (tested same) | inr old ↦ s.none k y v i old tt ];
    cheap = λ plan h. upto-from w.cost w.length e.cost e.length (plan_cost costs plan) (length plan) (sym cost-is) (sym length-is)
        (first-cheap p task costs b kept ways open_ opened cost length_ at s e first plan h);
  }
    where
      cost-is : e.cost ≡ w.cost
      cost-is = ap (λ (u : Entry). u.cost) is

      length-is : e.length ≡ w.length
      length-is = ap (λ (u : Entry). u.length) is

-- the listed actions have all that lead on
lists-complete : (p : PlainProblem) (x : Pair) (listed : List Action) → ListsActions p x.world listed → (a : Action) (y : Pair) →
    (pair_graph p).after x a ≡ Some y → Among a listed
unfolding pair_graph
lists-complete p x listed l a y e = (l.exact a).1 (by_step (step p x.world a) ((unless-pruned (next_pair p x a) y).0 e).0)
  where
    by_step : (o : Option World) → option_map (pair_in p x.formula) o ≡ Some y → IsTrue (is_some o)
    by_step None q = let c : ⊥ = cc in absurd c
    by_step (Some v) q = refl

-- what is still to be tried where one action less is
pub untried-more : (at : ℕ) (a : Action) (rest : List Action) (k : ℕ) (c : Action) → (IsUntried at (Some rest) k c → ⊥) →
    (IsUntried at (Some (a ∷ rest)) k c → ⊥) ⊎ ((k ≡ at) × (a ≡ c))
untried-more at a rest k c n = elim (ℕ_discrete k at) [
  | yes same ↦ elim (decide_among action_cmp actions-total c (a ∷ [])) [
    | yes m ↦ inr (same, elim m [ inl q ↦ q | inr q ↦ absurd q ])
    | no m ↦ inl (λ u. elim u.1 [ inl q ↦ m (inl q) | inr q ↦ n (same, q) ])
  ]
  | no other ↦ inl (λ u. other u.0)
]

module _ (p : PlainProblem) (task : Task) (costs : List ℕ) (b : ℕ) (kept : List KeptPair) (ways : List Way) (open_ : Entry → Bool)
    (opened at : ℕ) (x : KeptPair) (w : Way) (here : IsAt kept ways at x w) where
  -- the pair is not accepted, and its actions are listed
  pub list-actions : (listed : List Action) → IsOngoing p task costs b kept ways open_ opened w.cost w.length at None →
      (IsPairAccepted p x.node → ⊥) → ListsActions p x.node.world listed →
      IsOngoing p task costs b kept ways open_ opened w.cost w.length at (Some listed)
  list-actions listed s unaccepted l = record {
    are_kept = s.are_kept;
    as_many = s.as_many;
    some = s.some;
    few = s.few;
    root = s.root;
    reached = s.reached;
    linked = s.linked;
    named = s.named;
    small = s.small;
    short = s.short;
    settled_short = s.settled_short;
    exact = s.exact;
    least = s.least;
    below = s.below;
    above = s.above;
    closed = λ k y v a z i h untried f. s.closed k y v a z i h (λ same.
        (let t = at-one kept ways k at y x v w i here same in untried (
          same,
          lists-complete p x.node listed l a z (subst (λ (u : KeptPair). (pair_graph p).after u.node a ≡ Some z) t.0 f),
        ))) f;
    none = λ k y v i h tested. elim (ℕ_discrete k at) [
      | yes same ↦ (let t = at-one kept ways k at y x v w i here same in λ q.
          unaccepted (subst (λ (u : KeptPair). IsPairAccepted p u.node) t.0 q))
      | no other ↦ s.none k y v i h other
    ];
    cheap = s.cheap;
  }

  -- an action was tried that leads nowhere, or to a kept pair whose way comes no later
  pub skip-action : (a : Action) (rest : List Action) → IsOngoing p task costs b kept ways open_ opened w.cost w.length at
      (Some (a ∷ rest)) → ((z : Pair) → (pair_graph p).after x.node a ≡ Some z →
      HasWay kept ways z (w.cost + action_cost costs a) (w.length + 1)) →
      IsOngoing p task costs b kept ways open_ opened w.cost w.length at (Some rest)
  skip-action a rest s covers = record {
    are_kept = s.are_kept;
    as_many = s.as_many;
    some = s.some;
    few = s.few;
    root = s.root;
    reached = s.reached;
    linked = s.linked;
    named = s.named;
    small = s.small;
    short = s.short;
    settled_short = s.settled_short;
    exact = s.exact;
    least = s.least;
    below = s.below;
    above = s.above;
    closed = λ k y v c z i h untried f. elim (untried-more at a rest k c untried) [
      | inl n ↦ s.closed k y v c z i h n f
      | inr q ↦ (let t = at-one kept ways k at y x v w i here q.0 in
          let g : (pair_graph p).after x.node a ≡ Some z = ap (λ (u : Action). (pair_graph p).after x.node u) q.1 ∙
          (ap (λ (u : KeptPair). (pair_graph p).after u.node c) (sym t.0) ∙ f) in
          subst (λ (u : Way). HasWay kept ways z (u.cost + action_cost costs c) (u.length + 1)) (sym t.1)
          (subst (λ (u : Action). HasWay kept ways z (w.cost + action_cost costs u) (w.length + 1)) q.1 (covers z g)))
    ];
    none = s.none;
    cheap = s.cheap;
  }
