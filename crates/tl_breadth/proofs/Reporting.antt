-- Events stay true and in turn as a search goes on.
use Rattle.std.proofs.Common.{◌≡◌, ◌≤◌, ◌<◌, ◌+◌, ℕ, suc, List, [], ◌∷◌, ◌++◌, length, take, drop, slice_get, Bool, true, Option, Some}
use Rattle.std.proofs.Common.{None, Result, Ok, Err, IfOk, OnErr, IsTrue, is_some, Less, refl, sym, ap, ◌∙◌, subst, arith, inl, inr}
use Rattle.std.proofs.Common.{append_assoc, append-nil, add-one, Equal, take_all, eq-or-lt_of_le}
use Rattle.std.specs.Cmp.{tied_itself}
use native.Mathlib.Decide.{dec_lt}
use Rattle.std.proofs.lemmas.Option.{slice_get_within}
use Rattle.tl_syntax.specs.declared.action.Action.{Action}
use Rattle.tl_syntax.specs.Lists.{Each, Among, Rises}
use Rattle.tl_syntax.proofs.ListLaws.{Each-append, Each-Among}
use Rattle.tl_terms.specs.Problem.{PlainProblem}
use Rattle.tl_terms.specs.Orders.{action_cmp}
use Rattle.tl_terms.specs.Pairs.{pair_of}
use Rattle.tl_terms.specs.Step.{step}
use Rattle.tl_terms.proofs.OrderLaws.{actions-total}
use Rattle.tl_search.specs.Kept.{AreKept}
use Rattle.tl_breadth.specs.Searched.{IsTried}
use Rattle.tl_search.specs.PairGraph.{next_pair, pair_graph}
use Rattle.tl_search.specs.KeptPairs.{KeptPair}
use Rattle.tl_search.specs.ListedActions.{ListsActions}
use Rattle.tl_search.proofs.WalkLaws.{length-snoc}
use Rattle.tl_search.proofs.ListLaws.{decide_among, get-one, get-inside, among-new, among-old, among-last, rises-before, comes-later}
use Rattle.tl_search.proofs.ListLaws.{take-next, split-at}
use Rattle.tl_search.specs.declared.arrival.Arrival.{Arrival}
use Rattle.tl_search.specs.declared.arrival.Arrival.TheVariants as arrival
use Rattle.tl_search.specs.declared.fault.SpaceFault.{SpaceFault}
use Rattle.tl_search.specs.declared.event.Event.{Event}
use Rattle.tl_search.specs.declared.event.Event.TheVariants as event
use Rattle.tl_search.specs.declared.outcome.Outcome.{Outcome}
use Rattle.tl_search.specs.declared.outcome.Outcome.TheVariants as outcome
use Rattle.tl_search.specs.Arrivals.{Arrives}
use Rattle.tl_breadth.specs.Outcomes.{GrowsBy, HasLevels, EndsEarly}
use Rattle.tl_search.specs.Events.{event_of, events_after}
use Rattle.tl_breadth.specs.Events.{Arrived, IsEarlier, AreInTurn, IsArrival, AreFirstArrivals, AreAllArrivals, arrived_in, arrivals_of}
use Rattle.tl_breadth.specs.Events.{TellsRootOnce, IsReported, IsReportedSomewhere, HasReported, IsTicked, TicksArrival, EndsAtLast}
use Rattle.tl_breadth.specs.Events.{EndsWithPathIfAny}
use Rattle.tl_search.specs.Ends.{EndsByKeeping}
use Rattle.tl_search.proofs.HistoryLaws.{history-kept, history-pruned, history-more}
use Rattle.tl_breadth.proofs.Growing.{grows-same, grows-one}
use Rattle.tl_search.proofs.ListLaws.{among-at}

arrivals-snoc : (es : List Event) (e : Event) → arrivals_of (es ++ e ∷ []) ≡ arrivals_of es ++ arrived_in e
arrivals-snoc [] e = append-nil (arrived_in e)
arrivals-snoc (f ∷ es) e = ap (λ rs. arrived_in f ++ rs) (arrivals-snoc es e) ∙
    sym (append_assoc (arrived_in f) (arrivals_of es) (arrived_in e))

turn-snoc : (rs : List Arrived) (s : Arrived) → AreInTurn rs → Each (λ r. IsEarlier r s) rs → AreInTurn (rs ++ s ∷ [])
turn-snoc [] s h e = (tt, tt)
turn-snoc (r ∷ rs) s h e = ((Each-append (λ u. IsEarlier r u) rs (s ∷ [])).1 (h.0, (e.0, tt)), turn-snoc rs s h.1 e.1)

one-arrival : (at : ℕ) (a : Action) (r : Arrival) → arrived_in (event_of at a r) ≡ (at, a) ∷ []
one-arrival at a arrival.Pruned = refl
one-arrival at a (arrival.Seen k) = refl
one-arrival at a (arrival.Fresh k) = refl

module _ (p : PlainProblem) (old new : List KeptPair) (at : ℕ) (pair : KeptPair) (is_pair : slice_get old at ≡ Some pair) (a : Action) where
  pub arrives-grows : (r : Arrival) → Arrives old new (next_pair p pair.node a) (pair.path ++ a ∷ []) r →
      GrowsBy (length pair.path + 1) old new
  arrives-grows arrival.Pruned h = grows-same (length pair.path + 1) old new h.0
  arrives-grows (arrival.Seen k) h = grows-same (length pair.path + 1) old new h.0
  arrives-grows (arrival.Fresh k) h = grows-one (length pair.path + 1) old new (record { node = h.1.0; path = pair.path ++ a ∷ [] }) h.1.3
      (length-snoc pair.path a ∙ sym (add-one (length pair.path)))

module _ (p : PlainProblem) (n : ℕ) (old new : List KeptPair) (at : ℕ) (pair : KeptPair) (is_pair : slice_get old at ≡ Some pair)
    (short : length pair.path < n) (listed : List Action) (l : ListsActions p pair.node.world listed) (k : ℕ) (a : Action)
    (turn : slice_get listed k ≡ Some a) (g : GrowsBy (length pair.path + 1) old new) where
  whole : take k listed ++ a ∷ drop (suc k) listed ≡ listed
  whole = split-at listed k a turn

  executable : IsTrue (is_some (step p pair.node.world a))
  executable = (l.exact a).0 (among-at listed k a turn)

  arrival-new : (r : Arrived) → IsArrival p n old r → IsArrival p n new r
  arrival-new r h = (h.0, g.stay r.0 h.0 h.1, h.2, h.3)

  arrival-old : (r : Arrived) → r.0 ≤ at → IsArrival p n new r → IsArrival p n old r
  arrival-old r near h =
      let q : at < length old = slice_get_within old at pair is_pair in
      let y = get-inside old r.0 (omega arith) in
      let same : y.0 ≡ h.0 = get-one new r.0 y.0 h.0 (g.stay r.0 y.0 y.1) h.1 in
      (h.0, subst (λ (z : KeptPair). slice_get old r.0 ≡ Some z) same y.1, h.2, h.3)

  tried-near : (r : Arrived) (tried : List Action) → IsTried at tried r.0 r.1 → r.0 ≤ at
  tried-near r tried (inl h) = omega arith
  tried-near r tried (inr h) = omega (arith, h.0)

  -- an earlier action of the pair was tried
  earlier-tried : (r : Arrived) → IsArrival p n new r → IsEarlier r (at, a) → IsTried at (take k listed) r.0 r.1
  earlier-tried r h (inl less) = inl less
  earlier-tried r h (inr e) = inr (e.0, by_place (decide_among action_cmp actions-total r.1 (take k listed)))
    where
      here : slice_get new r.0 ≡ Some pair
      here = subst (λ i. slice_get new i ≡ Some pair) (sym e.0) (g.stay at pair is_pair)

      in_list : Among r.1 listed
      in_list = (l.exact r.1).1 (subst (λ (z : KeptPair). IsTrue (is_some (step p z.node.world r.1)))
          (get-one new r.0 h.0 pair h.1 here) h.3)

      by_place : Dec (Among r.1 (take k listed)) → Among r.1 (take k listed)
      by_place (yes m) = m
      by_place (no m) = absurd (not_both (comes-later action_cmp actions-total (take k listed) a (drop (suc k) listed) r.1
          (subst (Rises action_cmp) (sym whole) l.rises) (subst (Among r.1) (sym whole) in_list)
          (λ u. elim (among-new r.1 a (take k listed) u) [ inl v ↦ m v | inr v ↦ not_itself v ])))
        where
          not_itself : a ≡ r.1 → ⊥
          not_itself v = let q : Less ≡ Equal = sym e.1 ∙ subst (λ u. action_cmp r.1 u ≡ Equal) (sym v)
              (tied_itself actions-total.total r.1) in let b : ⊥ = cc in b

          not_both : action_cmp a r.1 ≡ Less → ⊥
          not_both u = let q : Less ≡ Equal = sym (actions-total.total.trans a r.1 a u e.1) ∙ tied_itself actions-total.total a in
              let b : ⊥ = cc in b

  module _ (rs : List Arrived) (f : AreFirstArrivals p n old rs) (upto : (r : Arrived) → Among r rs → IsTried at (take k listed) r.0 r.1)
      (all : (r : Arrived) → IsArrival p n old r → IsTried at (take k listed) r.0 r.1 → Among r rs) where
    pub more-first : AreFirstArrivals p n new (rs ++ (at, a) ∷ [])
    more-first = record {
      in_turn = turn-snoc rs (at, a) f.in_turn ((Each-Among (λ r. IsEarlier r (at, a)) rs).1 (λ r m. before r (upto r m)));
      right = λ r m. elim (among-new r (at, a) rs m) [
        | inl h ↦ arrival-new r (f.right r h)
        | inr e ↦ subst (IsArrival p n new) e
            (pair, g.stay at pair is_pair, short, executable)
      ];
      none_left_out = λ r s h m e. elim (among-new s (at, a) rs m) [
        | inl t ↦ among-old r (at, a) rs (f.none_left_out r s (arrival-old r (near r s e (tried-near s (take k listed) (upto s t))) h) t e)
        | inr t ↦ among-old r (at, a) rs (let d = earlier-tried r h (subst (IsEarlier r) (sym t) e) in
            all r (arrival-old r (tried-near r (take k listed) d) h) d)
      ];
    }
      where
        before : (r : Arrived) → IsTried at (take k listed) r.0 r.1 → IsEarlier r (at, a)
        before r (inl h) = inl h
        before r (inr h) = inr (
          h.0,
          (Each-Among (λ x. action_cmp x a ≡ Less) (take k listed)).0
              (rises-before action_cmp actions-total (take k listed) a (drop (suc k) listed) (subst (Rises action_cmp) (sym whole) l.rises))
              r.1 h.1,
        )

        near : (r s : Arrived) → IsEarlier r s → s.0 ≤ at → r.0 ≤ at
        near r s (inl h) q = omega arith
        near r s (inr h) q = omega (arith, h.0)

    pub more-upto : (r : Arrived) → Among r (rs ++ (at, a) ∷ []) → IsTried at (take (k + 1) listed) r.0 r.1
    more-upto r m = subst (λ us. IsTried at us r.0 r.1) (sym (take-next listed k a turn))
        (elim (among-new r (at, a) rs m) [
          | inl h ↦ tried-more (upto r h)
          | inr e ↦ subst
              (λ (u : Arrived). IsTried at (take k listed ++ a ∷ []) u.0 u.1) e (inr (refl, among-last a (take k listed)))
        ])
      where
        tried-more : IsTried at (take k listed) r.0 r.1 → IsTried at (take k listed ++ a ∷ []) r.0 r.1
        tried-more (inl h) = inl h
        tried-more (inr h) = inr (h.0, among-old r.1 a (take k listed) h.1)

    pub more-all : (r : Arrived) → IsArrival p n new r → IsTried at (take (k + 1) listed) r.0 r.1 → Among r (rs ++ (at, a) ∷ [])
    more-all r h t = by_new (subst (λ us. IsTried at us r.0 r.1) (take-next listed k a turn) t)
      where
        by_new : IsTried at (take k listed ++ a ∷ []) r.0 r.1 → Among r (rs ++ (at, a) ∷ [])
        by_new (inl q) = among-old r (at, a) rs (all r (arrival-old r (omega arith) h) (inl q))
        by_new (inr q) = elim (among-new r.1 a (take k listed) q.1) [
          | inl m ↦ among-old r (at, a) rs (all r (arrival-old r (omega (arith, q.0)) h) (inr (q.0, m)))
          | inr e ↦ subst (λ (u : Arrived). Among u (rs ++ (at, a) ∷ [])) (let d : (at, a) ≡ r = λ i. (sym q.0 i, e i) in d)
              (among-last (at, a) rs)
        ]

-- one more arrival is reported
pub report-step : (p : PlainProblem) (n : ℕ) (watch : Bool) (from : ℕ) (old new : List KeptPair) (at : ℕ) (pair : KeptPair)
    (listed : List Action) (k : ℕ) (a : Action) (r : Arrival) (events later : List Event) (steps : ℕ) → slice_get old at ≡ Some pair →
    length pair.path < n → ListsActions p pair.node.world listed → slice_get listed k ≡ Some a →
    Arrives old new (next_pair p pair.node a) (pair.path ++ a ∷ []) r → AreKept (pair_graph p) new → later ≡
    events_after watch events (event_of at a r) → IsReported p n watch from old at (take k listed) events steps →
    IsReported p n watch from new at (take (k + 1) listed) later (steps + 1)
report-step p n watch from old new at pair listed k a r events later steps is_pair short l turn h kept e s = record {
  arrived = s.arrived ++ (at, a) ∷ [];
  first = more-first p n old new at pair is_pair short listed l k a turn g s.arrived s.first s.upto s.all;
  upto = more-upto p n old new at pair is_pair short listed l k a turn g s.arrived s.first s.upto s.all;
  all = more-all p n old new at pair is_pair short listed l k a turn g s.arrived s.first s.upto s.all;
  ticks = let q : length (s.arrived ++ (at, a) ∷ []) ≡ suc (length s.arrived) = length-snoc s.arrived (at, a) in omega (arith, s.ticks);
  history = history-more p watch old new at pair a r events later s.history is_pair h kept e;
  shown = λ w. shown_more w ∙ ap (λ us. us ++ (at, a) ∷ []) (s.shown w);
  root_once = λ w. ap length (watched w) ∙ (length-snoc events (event_of at a r) ∙
      ap suc (s.root_once w ∙ sym (ap length (shown_more w) ∙ length-snoc (arrivals_of events) (at, a))));
}
  where
    g : GrowsBy (length pair.path + 1) old new
    g = arrives-grows p old new at pair is_pair a r h

    watched : watch ≡ true → later ≡ events ++ event_of at a r ∷ []
    watched w = e ∙ ap (λ b. events_after b events (event_of at a r)) w

    shown_more : watch ≡ true → arrivals_of later ≡ arrivals_of events ++ (at, a) ∷ []
    shown_more w = ap arrivals_of (watched w) ∙ (arrivals-snoc events (event_of at a r) ∙
        ap (λ us. arrivals_of events ++ us) (one-arrival at a r))

-- the next pair has its turn: all that are executable were tried
pub report-next : (p : PlainProblem) (n : ℕ) (watch : Bool) (from : ℕ) (kept : List KeptPair) (at : ℕ) (pair : KeptPair)
    (listed : List Action) (events : List Event) (steps : ℕ) → slice_get kept at ≡ Some pair → ListsActions p pair.node.world listed →
    IsReported p n watch from kept at listed events steps → IsReported p n watch from kept (at + 1) [] events steps
report-next p n watch from kept at pair listed events steps is_pair l s = record {
  arrived = s.arrived;
  first = s.first;
  upto = λ r m. is r (s.upto r m);
  all = λ r h t. s.all r h (was r h t);
  ticks = s.ticks;
  history = s.history;
  shown = s.shown;
  root_once = s.root_once;
}
  where
    is : (r : Arrived) → IsTried at listed r.0 r.1 → IsTried (at + 1) [] r.0 r.1
    is r (inl h) = inl (omega arith)
    is r (inr h) = inl (omega (arith, h.0))

    was : (r : Arrived) → IsArrival p n kept r → IsTried (at + 1) [] r.0 r.1 → IsTried at listed r.0 r.1
    was r h (inr t) = absurd t.1
    was r h (inl t) = elim (let q : r.0 ≤ at = omega arith in eq-or-lt_of_le q) [
      | inl e ↦ inr (
        e,
        (l.exact r.1).1 (subst (λ (z : KeptPair). IsTrue (is_some (step p z.node.world r.1)))
            (get-one kept r.0 h.0 pair h.1 (subst (λ i. slice_get kept i ≡ Some pair) (sym e) is_pair)) h.3),
      )
      | inr less ↦ inl less
    ]

-- the actions up to the k-th are all there are
pub report-done : (p : PlainProblem) (n : ℕ) (watch : Bool) (from : ℕ) (kept : List KeptPair) (at : ℕ) (pair : KeptPair)
    (listed : List Action) (k : ℕ) (events : List Event) (steps : ℕ) → length listed ≤ k → slice_get kept at ≡ Some pair →
    ListsActions p pair.node.world listed → IsReported p n watch from kept at (take k listed) events steps →
    IsReported p n watch from kept (at + 1) [] events steps
report-done p n watch from kept at pair listed k events steps all is_pair l s =
    report-next p n watch from kept at pair listed events steps is_pair l
    (subst (λ us. IsReported p n watch from kept at us events steps) (take_all k listed all) s)

-- where all pairs from the one whose turn it is on are far, no arrival is left out
pub all-arrivals : (p : PlainProblem) (n : ℕ) (watch : Bool) (from : ℕ) (kept : List KeptPair) (done : ℕ) (events : List Event)
    (steps : ℕ) → ((i : ℕ) (x : KeptPair) → slice_get kept i ≡ Some x → done ≤ i → n ≤ length x.path) →
    (r : IsReported p n watch from kept done [] events steps) → AreAllArrivals p n kept r.arrived
all-arrivals p n watch from kept done events steps far s r h = by_place (dec_lt r.0 done)
  where
    by_place : Dec (r.0 < done) → Among r s.arrived
    by_place (yes less) = s.all r h (inl less)
    by_place (no more) = let q : n ≤ length h.0.path = far r.0 h.0 h.1 (omega arith) in let b : ⊥ = omega (arith, h.2) in absurd b

pub arrivals-of-levels : (p : PlainProblem) (n : ℕ) (watch : Bool) (from : ℕ) (kept : List KeptPair) (done : ℕ) (events : List Event)
    (steps : ℕ) → HasLevels kept done (length kept) n → (r : IsReported p n watch from kept done [] events steps) →
    AreAllArrivals p n kept r.arrived
arrivals-of-levels p n watch from kept done events steps l = all-arrivals p n watch from kept done events steps
    (λ i x e near. (let q : length x.path ≡ n = (l i x e near).0 (slice_get_within kept i x e) in omega arith))

-- a part ended the search
pub ended : (p : PlainProblem) (n : ℕ) (watch : Bool) (from : ℕ) (kept : List KeptPair) (events : List Event) (steps : ℕ) (o : Outcome) →
    EndsEarly (Some o) → IsReportedSomewhere p n watch from kept events steps → HasReported p n watch from kept events steps o
ended p n watch from kept events steps (outcome.Plan plan) e h = h
ended p n watch from kept events steps outcome.NoPlan e h = absurd e
ended p n watch from kept events steps outcome.NoneWithin e h = absurd e
ended p n watch from kept events steps outcome.Spent e h = h

-- the root is kept, and nothing was tried
pub report-root : (p : PlainProblem) (n : ℕ) (watch : Bool) (from : ℕ) (old new : List KeptPair) (k : ℕ) (later : List Event) → old ≡ [] →
    Arrives old new (pair_of p []) [] (arrival.Fresh k) → later ≡ events_after watch [] event.RootKept →
    IsReported p n watch from new 0 [] later from
report-root p n watch from old new k later e h l = record {
  arrived = [];
  first = record { in_turn = tt; right = λ r m. absurd m; none_left_out = λ r s q m t. absurd m };
  upto = λ r m. absurd m;
  all = λ r q t. absurd (nothing r t);
  ticks = omega arith;
  history = history-kept p watch old new k later e h l;
  shown = λ w. ap arrivals_of (l ∙ ap (λ b. events_after b [] event.RootKept) w);
  root_once = λ w. subst TellsRootOnce (sym (l ∙ ap (λ b. events_after b [] event.RootKept) w)) refl;
}
  where
    nothing : (r : Arrived) → IsTried 0 [] r.0 r.1 → ⊥
    nothing r (inl t) = let b : ⊥ = omega arith in b
    nothing r (inr t) = t.1

-- the root is pruned: there is no arrival
pub report-no-root : (p : PlainProblem) (n : ℕ) (watch : Bool) (from : ℕ) (old new : List KeptPair) (later : List Event) → old ≡ [] →
    Arrives old new (pair_of p []) [] arrival.Pruned → later ≡ events_after watch [] event.RootPruned →
    HasReported p n watch from new later from outcome.NoPlan
report-no-root p n watch from old new later e h l = (
  0,
  record {
    arrived = [];
    first = record { in_turn = tt; right = λ r m. absurd m; none_left_out = λ r s q m t. absurd m };
    upto = λ r m. absurd m;
    all = λ r q t. absurd (none r q);
    ticks = omega arith;
    history = history-pruned p watch old new later e h l;
    shown = λ w. ap arrivals_of (l ∙ ap (λ b. events_after b [] event.RootPruned) w);
    root_once = λ w. subst TellsRootOnce (sym (l ∙ ap (λ b. events_after b [] event.RootPruned) w)) refl;
  },
  λ r q. absurd (none r q),
)
  where
    empty : new ≡ []
    empty = h.0 ∙ e

    none : (r : Arrived) → IsArrival p n new r → ⊥
    none r q = let f : slice_get [] r.0 ≡ Some q.0 = subst (λ xs. slice_get xs r.0 ≡ Some q.0) empty q.1 in let b : ⊥ = cc in b

-- the pair that was kept last ends the search
pub ends-at-last : {E : Type 0} (watch : Bool) (kept : List KeptPair) (events : List Event) (r : Result (Option Outcome) E) →
    IfOk r EndsEarly → IfOk r (EndsAtLast kept) → (watch ≡ true → EndsByKeeping kept events) → IfOk r (EndsWithPathIfAny watch kept events)
ends-at-last watch kept events (Ok None) e h k = tt
ends-at-last watch kept events (Ok (Some (outcome.Plan plan))) e h k = (h, k)
ends-at-last watch kept events (Ok (Some outcome.NoPlan)) e h k = (tt, tt)
ends-at-last watch kept events (Ok (Some outcome.NoneWithin)) e h k = (tt, tt)
ends-at-last watch kept events (Ok (Some outcome.Spent)) e h k = (tt, k)
ends-at-last watch kept events (Err f) e h k = tt

-- ---- steps, also where the search ends by a fault

pub ticked : (p : PlainProblem) (n : ℕ) (watch : Bool) (from : ℕ) (kept : List KeptPair) (done : ℕ) (tried : List Action)
    (events : List Event) (steps : ℕ) → IsReported p n watch from kept done tried events steps → IsTicked p n from kept steps
ticked p n watch from kept done tried events steps s = record { arrived = s.arrived; first = s.first; ticks = s.ticks }

-- the pairs are the same still
pub ticked-same : (p : PlainProblem) (n : ℕ) (watch : Bool) (from : ℕ) (kept more : List KeptPair) (done : ℕ) (tried : List Action)
    (events : List Event) (steps : ℕ) → more ≡ kept → IsReported p n watch from kept done tried events steps → IsTicked p n from more steps
ticked-same p n watch from kept more done tried events steps e s = subst (λ ks. IsTicked p n from ks steps) (sym e)
    (ticked p n watch from kept done tried events steps s)

-- nothing was tried yet
pub ticked-none : (p : PlainProblem) (n from : ℕ) (kept : List KeptPair) → IsTicked p n from kept from
ticked-none p n from kept = record {
  arrived = [];
  first = record { in_turn = tt; right = λ r m. absurd m; none_left_out = λ r s q m t. absurd m };
  ticks = omega arith;
}

-- one more action was tried, whatever came of it
pub ticked-child : (p : PlainProblem) (n : ℕ) (watch : Bool) (old new now : List KeptPair) (at : ℕ) (a : Action)
    (r : Result Arrival SpaceFault) (events : List Event) (steps more : ℕ) → now ≡ new → more ≡ steps + 1
    → IfOk r (λ arrival. (x : KeptPair) → slice_get old at ≡ Some x → Arrives old new (next_pair p x.node a) (x.path ++ a ∷ []) arrival) →
    OnErr r (new ≡ old) → TicksArrival p n watch old now at a events steps more
ticked-child p n watch old new now at a r events steps more e m h same from k pair listed is_pair short l turn s =
    subst (λ ks. IsTicked p n from ks more) (sym e) (record {
      arrived = s.arrived ++ (at, a) ∷ [];
      first = more-first p n old new at pair is_pair short listed l k a turn (grown r h same) s.arrived s.first s.upto s.all;
      ticks = let q : length (s.arrived ++ (at, a) ∷ []) ≡ suc (length s.arrived) = length-snoc s.arrived (at, a) in
          omega (arith, s.ticks, m);
    })
  where
    grown : (u : Result Arrival SpaceFault) → IfOk u (λ arrival. (x : KeptPair) → slice_get old at ≡ Some x →
        Arrives old new (next_pair p x.node a) (x.path ++ a ∷ []) arrival) → OnErr u (new ≡ old) → GrowsBy (length pair.path + 1) old new
    grown (Ok arrival) g z = arrives-grows p old new at pair is_pair a arrival (g pair is_pair)
    grown (Err f) g z = grows-same (length pair.path + 1) old new z

-- a part that was reported
pub ticked-somewhere : (p : PlainProblem) (n : ℕ) (watch : Bool) (from : ℕ) (kept : List KeptPair) (events : List Event) (steps : ℕ) →
    IsReportedSomewhere p n watch from kept events steps → IsTicked p n from kept steps
ticked-somewhere p n watch from kept events steps s = ticked p n watch from kept s.0 s.1 events steps s.2

pub ticked-whole : (p : PlainProblem) (n : ℕ) (watch : Bool) (from : ℕ) (kept : List KeptPair) (events : List Event) (steps : ℕ)
    (o : Outcome) → HasReported p n watch from kept events steps o → IsTicked p n from kept steps
ticked-whole p n watch from kept events steps (outcome.Plan plan) h = ticked-somewhere p n watch from kept events steps h
ticked-whole p n watch from kept events steps outcome.NoPlan h = ticked p n watch from kept h.0 [] events steps h.1
ticked-whole p n watch from kept events steps outcome.NoneWithin h = ticked p n watch from kept h.0 [] events steps h.1
ticked-whole p n watch from kept events steps outcome.Spent h = ticked-somewhere p n watch from kept events steps h
