-- Where each walk leads, between two turns: to a settled pair, or past a pair of the open list.
use Rattle.std.proofs.Common.{◌≡◌, ◌⊎◌, ℕ, ◌+◌, Bool, true, false, List, [], ◌∷◌, ◌++◌, length, slice_get, Some, refl, sym, ap, ◌∙◌, subst}
use Rattle.std.proofs.Common.{inl, inr, arith}
use Rattle.tl_syntax.specs.declared.action.Action.{Action}
use Rattle.tl_terms.specs.Acceptance.{IsAccepted}
use Rattle.tl_terms.specs.Pairs.{Pair, IsPairAccepted}
use Rattle.tl_terms.specs.Problem.{PlainProblem}
use Rattle.tl_world.specs.declared.task.Task.{Task}
use Rattle.tl_search.specs.Graphs.{walk}
use Rattle.tl_search.specs.KeptPairs.{KeptPair}
use Rattle.tl_search.specs.PairGraph.{pair_graph}
use Rattle.tl_search.specs.Plans.{HasNoPlan}
use Rattle.tl_search.proofs.ListLaws.{get-inside, get-one}
use Rattle.tl_search.proofs.PathLaws.{walk-accepted}
use Rattle.tl_search.proofs.WalkLaws.{by_last, walk-back}
use Rattle.tl_cost.specs.Ongoing.{IsAt, HasWay, IsOngoing}
use Rattle.tl_cost.specs.PlanCosts.{action_cost, plan_cost}
use Rattle.tl_cost.specs.Ways.{ComesNoLater, entry_of}
use Rattle.tl_cost.specs.declared.open_list.Entry.{Entry}
use Rattle.tl_cost.specs.declared.ways.Way.{Way}
use Rattle.tl_cost.proofs.CostOrder.{upto-zero, upto-trans, upto-onward, upto-grows, upto-path}

-- a settled pair is this one, and its way comes no later
pub record SettledUpto (kept : List KeptPair) (ways : List Way) (open_ : Entry → Bool) (v : Pair) (cost length_ : ℕ) : Type 0 where
  pub number : ℕ
  pub pair : KeptPair
  pub way : Way
  pub is_at : IsAt kept ways number pair way
  pub same : pair.node ≡ v
  pub settled : open_ (entry_of way number) ≡ false
  pub upto : ComesNoLater way.cost way.length cost length_

-- the way to a pair of the open list comes no later
pub record OpenUpto (kept : List KeptPair) (ways : List Way) (open_ : Entry → Bool) (cost length_ : ℕ) : Type 0 where
  pub number : ℕ
  pub pair : KeptPair
  pub way : Way
  pub is_at : IsAt kept ways number pair way
  pub listed : open_ (entry_of way number) ≡ true
  pub upto : ComesNoLater way.cost way.length cost length_

module _ (p : PlainProblem) (task : Task) (costs : List ℕ) (b : ℕ) (kept : List KeptPair) (ways : List Way) (open_ : Entry → Bool)
    (opened cost length_ at : ℕ) (s : IsOngoing p task costs b kept ways open_ opened cost length_ at (Some [])) where
  from-reached : (v : Pair) (c l : ℕ) → HasWay kept ways v c l → SettledUpto kept ways open_ v c l ⊎ OpenUpto kept ways open_ c l
  from-reached v c l r = by_list (open_ (entry_of r.way r.number)) refl
    where
      by_list : (t : Bool) → open_ (entry_of r.way r.number) ≡ t → SettledUpto kept ways open_ v c l ⊎ OpenUpto kept ways open_ c l
      by_list true e = inr (record { number = r.number; pair = r.pair; way = r.way; is_at = r.is_at; listed = e; upto = r.upto })
      by_list false e = inl (record {
        number = r.number;
        pair = r.pair;
        way = r.way;
        is_at = r.is_at;
        same = r.same;
        settled = e;
        upto =
            r.upto;
      })

  -- each walk leads to a settled pair whose way comes no later, or some open pair's way comes no later
  pub leads : (path : List Action) (v : Pair) → walk (pair_graph p) path ≡ Some v →
      SettledUpto kept ways open_ v (plan_cost costs path) (length path) ⊎ OpenUpto kept ways open_ (plan_cost costs path) (length path)
  leads = by_last (λ path. (v : Pair) → walk (pair_graph p) path ≡ Some v →
      SettledUpto kept ways open_ v (plan_cost costs path) (length path) ⊎ OpenUpto kept ways open_ (plan_cost costs path) (length path))
      at_root further
    where
      at_root : (v : Pair) → walk (pair_graph p) [] ≡ Some v → SettledUpto kept ways open_ v 0 0 ⊎ OpenUpto kept ways open_ 0 0
      at_root v e =
          let x = get-inside kept 0 s.some in
          let w = get-inside ways 0 (omega (arith, s.some, s.as_many)) in
          let here : IsAt kept ways 0 x.0 w.0 = record { pair = x.1; way = w.1 } in
          let same : Some x.0.node ≡ Some v = sym (s.are_kept.walks 0 x.0 x.1) ∙
          (ap (walk (pair_graph p)) (s.are_kept.begins x.0 x.1) ∙ e) in
          let none = s.root x.0 w.0 here in
          from-reached v 0 0 (record {
            number = 0;
            pair = x.0;
            way = w.0;
            is_at = here;
            same = cc;
            upto =
                upto-zero w.0.cost w.0.length 0 0 none.0 none.1;
          })

      further : (front : List Action) (a : Action) → ((v : Pair) → walk (pair_graph p) front ≡ Some v →
          SettledUpto kept ways open_ v (plan_cost costs front) (length front) ⊎
          OpenUpto kept ways open_ (plan_cost costs front) (length front)) → (v : Pair) → walk (pair_graph p) (front ++ a ∷ []) ≡ Some v →
          SettledUpto kept ways open_ v (plan_cost costs (front ++ a ∷ [])) (length (front ++ a ∷ [])) ⊎
          OpenUpto kept ways open_ (plan_cost costs (front ++ a ∷ [])) (length (front ++ a ∷ []))
      further front a earlier v e = by_front (earlier before.0 before.1)
        where
          before : (u : Pair) × (walk (pair_graph p) front ≡ Some u) × ((pair_graph p).after u a ≡ Some v)
          before = walk-back (pair_graph p) front a v e

          by_front : SettledUpto kept ways open_ before.0 (plan_cost costs front) (length front) ⊎
              OpenUpto kept ways open_ (plan_cost costs front) (length front) →
              SettledUpto kept ways open_ v (plan_cost costs (front ++ a ∷ [])) (length (front ++ a ∷ [])) ⊎
              OpenUpto kept ways open_ (plan_cost costs (front ++ a ∷ [])) (length (front ++ a ∷ []))
          by_front (inl h) =
              let r = s.closed h.number h.pair h.way a v h.is_at h.settled (λ u. u.1)
              (subst (λ (u : Pair). (pair_graph p).after u a ≡ Some v) (sym h.same) before.2) in
              from-reached v (plan_cost costs (front ++ a ∷ [])) (length (front ++ a ∷ [])) (record {
                number = r.number;
                pair = r.pair;
                way = r.way;
                is_at = r.is_at;
                same = r.same;
                upto = upto-path costs r.way.cost r.way.length front a
                    (upto-trans r.way.cost r.way.length (h.way.cost + action_cost costs a) (h.way.length + 1)
                    (plan_cost costs front + action_cost costs a) (length front + 1) r.upto
                    (upto-onward h.way.cost h.way.length (plan_cost costs front) (length front) (action_cost costs a) h.upto));
              })
          by_front (inr h) = inr (record {
            number = h.number;
            pair = h.pair;
            way = h.way;
            is_at = h.is_at;
            listed = h.listed;
            upto = upto-path costs h.way.cost h.way.length front a (upto-trans h.way.cost h.way.length (plan_cost costs front)
                (length front) (plan_cost costs front + action_cost costs a) (length front + 1) h.upto
                (upto-grows (plan_cost costs front) (length front) (action_cost costs a)));
          })

  -- each accepted plan goes past an open pair whose way comes no later
  pub plan-ahead : (plan : List Action) → IsAccepted p plan → OpenUpto kept ways open_ (plan_cost costs plan) (length plan)
  plan-ahead plan h = by_lead (leads plan k.0 k.1)
    where
      k : (x : Pair) × (walk (pair_graph p) plan ≡ Some x) × IsPairAccepted p x
      k = (walk-accepted p plan).0 h

      by_lead : SettledUpto kept ways open_ k.0 (plan_cost costs plan) (length plan) ⊎
          OpenUpto kept ways open_ (plan_cost costs plan) (length plan) → OpenUpto kept ways open_ (plan_cost costs plan) (length plan)
      by_lead (inl m) = absurd (s.none m.number m.pair m.way m.is_at m.settled tt (subst (IsPairAccepted p) (sym m.same) k.2))
      by_lead (inr m) = m

  -- where the open list is empty, no plan is accepted
  pub none-open : ((e : Entry) → open_ e ≡ false) → HasNoPlan p
  none-open empty plan h = let m = plan-ahead plan h in let d : true ≡ false = sym m.listed ∙ empty (entry_of m.way m.number) in cc

  module _ (e : Entry) (first : (q : Entry) → open_ q ≡ true → ComesNoLater e.cost e.length q.cost q.length) where
    -- the first of the open list comes no later than any accepted plan
    pub first-cheap : (plan : List Action) → IsAccepted p plan → ComesNoLater e.cost e.length (plan_cost costs plan) (length plan)
    first-cheap plan h = let m = plan-ahead plan h in upto-trans e.cost e.length m.way.cost m.way.length (plan_cost costs plan)
        (length plan) (first (entry_of m.way m.number) m.listed) m.upto

    -- nor than any path to its pair
    pub first-least : (x : KeptPair) (w : Way) → IsAt kept ways e.number x w → e ≡ entry_of w e.number → open_ e ≡ true →
        (path : List Action) → walk (pair_graph p) path ≡ Some x.node → ComesNoLater e.cost e.length (plan_cost costs path) (length path)
    first-least x w here is listed path f = by_lead (leads path x.node f)
      where
        by_lead : SettledUpto kept ways open_ x.node (plan_cost costs path) (length path) ⊎
            OpenUpto kept ways open_ (plan_cost costs path) (length path) →
            ComesNoLater e.cost e.length (plan_cost costs path) (length path)
        by_lead (inl m) =
            let same : m.number ≡ e.number = s.are_kept.differ m.number e.number m.pair x m.is_at.pair here.pair m.same in
            let way : m.way ≡ w = get-one ways e.number m.way w (subst (λ k. slice_get ways k ≡ Some m.way) same m.is_at.way) here.way in
            let entry : entry_of m.way m.number ≡ e = ap (λ k. entry_of m.way k) same ∙
            (ap (λ (u : Way). entry_of u e.number) way ∙ sym is) in
            let d : true ≡ false = sym listed ∙ (ap open_ (sym entry) ∙ m.settled) in
            let c : ⊥ = cc in absurd c
        by_lead (inr m) = upto-trans e.cost e.length m.way.cost m.way.length (plan_cost costs path) (length path)
            (first (entry_of m.way m.number) m.listed) m.upto
