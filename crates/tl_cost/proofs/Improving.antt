-- A pair is kept with its first way, or its way is replaced by one that comes no later.
use Rattle.std.proofs.Common.{◌≡◌, ◌≤◌, ◌<◌, ℕ, ◌+◌, ◌*◌, Bool, true, false, List, [], ◌∷◌, ◌++◌, length, slice_get, Option, Some, None}
use Rattle.std.proofs.Common.{refl, sym, ap, ◌∙◌, subst, inl, inr, arith, add-one}
use native.Mathlib.Decide.{ℕ_discrete}
use Rattle.std.proofs.lemmas.Option.{slice_get_within}
use Rattle.tl_syntax.specs.declared.action.Action.{Action}
use Rattle.tl_terms.specs.Pairs.{Pair}
use Rattle.tl_terms.specs.Problem.{PlainProblem}
use Rattle.tl_world.specs.declared.task.Task.{Task}
use Rattle.tl_search.specs.Kept.{AreKept}
use Rattle.tl_search.specs.KeptPairs.{KeptPair}
use Rattle.tl_search.specs.NamedAnswers.{IsNamedIn}
use Rattle.tl_search.specs.PairGraph.{pair_graph}
use Rattle.tl_search.proofs.ListLaws.{get-inside}
use Rattle.tl_search.proofs.WalkLaws.{length-snoc, walk-onward}
use Rattle.tl_cost.specs.Ongoing.{IsAt, IsWayTo, HasWay, IsLinked, IsOngoing}
use Rattle.tl_cost.specs.PlanCosts.{action_cost}
use Rattle.tl_cost.specs.Ways.{ComesNoLater, GoesOn, entry_of}
use Rattle.tl_cost.specs.declared.open_list.Entry.{Entry}
use Rattle.tl_cost.specs.declared.ways.Way.{Way}
use Rattle.tl_cost.specs.declared.ways.LastStep.{LastStep}
use Rattle.tl_cost.proofs.CostOrder.{upto-refl, upto-trans, upto-from, upto-grows, plan-cost-snoc}
use Rattle.tl_cost.proofs.Settling.{at-one, linked-on, untried-more}

-- the pair of number k is y, open and with this way, and had none or one that comes no earlier, and was open; all else is as before
pub record IsImproved (kept : List KeptPair) (ways : List Way) (open_ : Entry → Bool) (more : List KeptPair) (other : List Way)
    (list : Entry → Bool) (k : ℕ) (y : KeptPair) (m : Way) : Type 0 where
  pub there : IsAt more other k y m
  pub opened : list (entry_of m k) ≡ true
  pub stays : (i : ℕ) (x : KeptPair) (w : Way) → (i ≡ k → ⊥) → IsAt kept ways i x w → IsAt more other i x w
  pub stayed : (i : ℕ) (x : KeptPair) (w : Way) → (i ≡ k → ⊥) → IsAt more other i x w → IsAt kept ways i x w
  pub same : (e : Entry) → (e.number ≡ k → ⊥) → list e ≡ open_ e
  pub only : (e : Entry) → e.number ≡ k → list e ≡ true → e ≡ entry_of m k
  pub better : (x : KeptPair) (u : Way) → IsAt kept ways k x u → (x ≡ y) × ComesNoLater m.cost m.length u.cost u.length ×
      (open_ (entry_of u k) ≡ true)

true-false : (t : Bool) → t ≡ true → t ≡ false → ⊥
true-false t e f = let d : true ≡ false = sym e ∙ f in cc

-- each way has its pair
pub pair-at : (kept : List KeptPair) (ways : List Way) (k : ℕ) (w : Way) → length ways ≡ length kept → slice_get ways k ≡ Some w →
    (x : KeptPair) × IsAt kept ways k x w
pair-at kept ways k w e h = let x = get-inside kept k (omega (arith, slice_get_within ways k w h)) in (x.0, record { pair = x.1; way = h })

way-at : (kept : List KeptPair) (ways : List Way) (k : ℕ) → length ways ≡ length kept → k < length kept → (w : Way) ×
    (slice_get ways k ≡ Some w)
way-at kept ways k e less = get-inside ways k (omega arith)

module _ (p : PlainProblem) (task : Task) (costs : List ℕ) (b : ℕ) (kept : List KeptPair) (ways : List Way) (open_ : Entry → Bool)
    (opened at : ℕ) (x : KeptPair) (w : Way) (here : IsAt kept ways at x w) (settled : open_ (entry_of w at) ≡ false) (a : Action)
    (rest : List Action) (s : IsOngoing p task costs b kept ways open_ opened w.cost w.length at (Some (a ∷ rest))) where
  module _ (more : List KeptPair) (other : List Way) (list : Entry → Bool) (listed k : ℕ) (y : KeptPair) (m : Way)
      (im : IsImproved kept ways open_ more other list k y m) (g : GoesOn costs w at a m) where
    -- settled pairs have another number
    apart : (j : ℕ) (z : KeptPair) (v : Way) → IsAt kept ways j z v → open_ (entry_of v j) ≡ false → j ≡ k → ⊥
    apart j z v i h q =
        let t = im.better z v (subst (λ n. IsAt kept ways n z v) q i) in
        true-false (open_ (entry_of v j)) (ap (λ n. open_ (entry_of v n)) q ∙ t.2) h

    pub settled-on : (j : ℕ) (z : KeptPair) (v : Way) → IsAt kept ways j z v → open_ (entry_of v j) ≡ false → IsAt more other j z v ×
        (list (entry_of v j) ≡ false)
    settled-on j z v i h = let n = apart j z v i h in (im.stays j z v n i, im.same (entry_of v j) n ∙ h)

    -- a settled pair was so before
    settled-before : (j : ℕ) (z : KeptPair) (v : Way) → IsAt more other j z v → list (entry_of v j) ≡ false → IsAt kept ways j z v ×
        (open_ (entry_of v j) ≡ false)
    settled-before j z v i h = elim (ℕ_discrete j k) [
      | yes q ↦ (let t = at-one more other j k z y v m i im.there q in
          let e : entry_of v j ≡ entry_of m k = ap (λ n. entry_of v n) q ∙ ap (λ (u : Way). entry_of u k) t.1 in
          absurd (true-false (list (entry_of v j)) (ap list e ∙ im.opened) h))
      | no n ↦ (im.stayed j z v n i, sym (im.same (entry_of v j) n) ∙ h)
    ]

    module _ (are : AreKept (pair_graph p) more) (as_many : length other ≡ length more) (some : 0 < length more) (few : length more ≤ b)
        (counts : length more + opened ≡ length kept + listed) (leads : (pair_graph p).after x.node a ≡ Some y.node)
        (named : IsNamedIn task a) where
      -- the new way is one to its pair
      new-way : IsWayTo p costs y.node m
      new-way =
          let f = s.reached at x w here in
          record {
            path = f.path ++ a ∷ [];
            walks = walk-onward (pair_graph p) f.path a x.node y.node f.walks leads;
            its_cost = plan-cost-snoc costs f.path a ∙ (ap (λ n. n + action_cost costs a) f.its_cost ∙ sym g.cost);
            its_length = length-snoc f.path a ∙ (sym (add-one (length f.path)) ∙ (ap (λ n. n + 1) f.its_length ∙ sym g.longer));
          }

      new-link : (last : Option LastStep) → m.last ≡ last → IsLinked p costs more other list k y.node m last
      new-link None e = let d : Some (record { from = at; action = a }) ≡ None = sym g.last ∙ e in let c : ⊥ = cc in absurd c
      new-link (Some last) e =
          let d : record { from = at; action = a } ≡ last = (let q : Some (record { from = at; action = a }) ≡ Some last = sym g.last ∙ e in
          cc) in
          let t = settled-on at x w here settled in
          subst (λ (l : LastStep). IsLinked p costs more other list k y.node m (Some l)) d
          (record { before = x; its_way = w; is_at = t.0; settled = t.1; leads = leads; cost = g.cost; longer = g.longer })

      new-named : (r : LastStep) → m.last ≡ Some r → IsNamedIn task r.action
      new-named r q =
          let d : record { from = at; action = a } ≡ r = (let z : Some (record { from = at; action = a }) ≡ Some r = sym g.last ∙ q in cc)
          in
          subst (λ (o : LastStep). IsNamedIn task o.action) d named

      later : ComesNoLater w.cost w.length m.cost m.length
      later = let q = upto-grows w.cost w.length (action_cost costs a) in
          record { cheap = omega (arith, g.cost, q.cheap); short = λ _. omega (arith, g.longer) }

      by-number : (P : ℕ → KeptPair → Way → Type 0) → P k y m → ((j : ℕ) (z : KeptPair) (v : Way) → (j ≡ k → ⊥) → IsAt kept ways j z v →
          P j z v) → (j : ℕ) (z : KeptPair) (v : Way) → IsAt more other j z v → P j z v
      by-number P new old j z v i = elim (ℕ_discrete j k) [
        | yes q ↦ (let t = at-one more other j k z y v m i im.there q in
            subst (λ n. P n z v) (sym q) (subst (λ (u : KeptPair). P k u v) (sym t.0) (subst (λ (u : Way). P k y u) (sym t.1) new)))
        | no n ↦ old j z v n (im.stayed j z v n i)
      ]

      reached-on : (z : Pair) (c l : ℕ) → HasWay kept ways z c l → HasWay more other z c l
      reached-on z c l r = elim (ℕ_discrete r.number k) [
        | yes q ↦ (let t = im.better r.pair r.way (subst (λ n. IsAt kept ways n r.pair r.way) q r.is_at) in
            record {
              number = k;
              pair = y;
              way = m;
              is_at = im.there;
              same = ap (λ (u : KeptPair). u.node) (sym t.0) ∙ r.same;
              upto =
                  upto-trans m.cost m.length r.way.cost r.way.length c l t.1 r.upto;
            })
        | no n ↦ record {
          number = r.number;
          pair = r.pair;
          way = r.way;
          is_at = im.stays r.number r.pair r.way n r.is_at;
          same =
              r.same;
          upto = r.upto;
        }
      ]

      at-way : (j : ℕ) (v : Way) → slice_get other j ≡ Some v → (z : KeptPair) × IsAt more other j z v
      at-way j v e = pair-at more other j v as_many e

      pub improve : IsOngoing p task costs b more other list listed w.cost w.length at (Some rest)
      improve = record {
        are_kept = are;
        as_many = as_many;
        some = some;
        few = few;
        root = λ z v i. elim (ℕ_discrete 0 k) [
          | yes q ↦ absurd (not-root q)
          | no n ↦ s.root z v (im.stayed 0 z v n i)
        ];
        reached = by-number (λ j z v. IsWayTo p costs z.node v) new-way (λ j z v n i. s.reached j z v i);
        linked = by-number (λ j z v. IsLinked p costs more other list j z.node v v.last) (new-link m.last refl)
            (λ j z v n i. linked-on p costs kept more ways other open_ list j z.node v v.last settled-on (s.linked j z v i));
        named = λ j v last e l. (let z = at-way j v e in by-number (λ n u o. (r : LastStep) → o.last ≡ Some r → IsNamedIn task r.action)
            (λ r q. new-named r q) (λ n u o far i r q. s.named n o r i.way q) j z.0 v z.1 last l);
        small = λ j v e. (let z = at-way j v e in by-number (λ n u o. o.cost ≤ 4294967296 * o.length)
            (let q : w.cost ≤ 4294967296 * w.length = s.small at w here.way in omega (arith, g.cost, g.longer, g.small))
            (λ n u o far i. s.small n o i.way) j z.0 v z.1);
        short = λ j v e. (let z = at-way j v e in by-number (λ n u o. o.length + listed ≤ length more)
            (let q : w.length + opened < length kept = s.settled_short at w here.way settled in omega (arith, g.longer))
            (λ n u o far i. (let q : o.length + opened ≤ length kept = s.short n o i.way in omega arith)) j z.0 v z.1);
        settled_short = λ j v e h. (let z = at-way j v e in let t = settled-before j z.0 v z.1 h in
            let q : v.length + opened < length kept = s.settled_short j v t.0.way t.1 in omega arith);
        exact = λ e h. elim (ℕ_discrete e.number k) [
          | yes q ↦ (y, m, subst (λ n. IsAt more other n y m) (sym q) im.there, im.only e q h ∙ ap (λ n. entry_of m n) (sym q))
          | no n ↦ (let t = s.exact e (sym (im.same e n) ∙ h) in (t.0, t.1, im.stays e.number t.0 t.1 n t.2, t.3))
        ];
        least = λ j z v i h. (let t = settled-before j z v i h in s.least j z v t.0 t.1);
        below = λ j z v i h. (let t = settled-before j z v i h in s.below j z v t.0 t.1);
        above = λ j z v i h. by-number (λ n u o. list (entry_of o n) ≡ true → ComesNoLater w.cost w.length o.cost o.length) (λ _. later)
            (λ n u o far q t. s.above n u o q (sym (im.same (entry_of o n) far) ∙ t)) j z v i h;
        closed = λ j z v c u i h untried f. (let t = settled-before j z v i h in elim (untried-more at a rest j c untried) [
          | inl n ↦ reached-on u (v.cost + action_cost costs c) (v.length + 1) (s.closed j z v c u t.0 t.1 n f)
          | inr q ↦ (let o = at-one kept ways j at z x v w t.0 here q.0 in
              let f2 : (pair_graph p).after x.node a ≡ Some u = ap (λ (r : Action). (pair_graph p).after x.node r) q.1 ∙
              (ap (λ (r : KeptPair). (pair_graph p).after r.node c) (sym o.0) ∙ f) in
              let same : Some y.node ≡ Some u = sym leads ∙ f2 in
              record {
                number = k;
                pair = y;
                way = m;
                is_at = im.there;
                same = cc;
                upto = upto-from m.cost m.length (v.cost + action_cost costs c) (v.length + 1) (v.cost + action_cost costs c) (v.length + 1)
                    (g.cost ∙ (ap (λ (r : Way). r.cost + action_cost costs a) (sym o.1) ∙
                    ap (λ (r : Action). v.cost + action_cost costs r) q.1))
                    (g.longer ∙ ap (λ (r : Way). r.length + 1) (sym o.1))
                    (upto-refl (v.cost + action_cost costs c) (v.length + 1));
              })
        ]);
        none = λ j z v i h tested. (let t = settled-before j z v i h in s.none j z v t.0 t.1 tt);
        cheap = s.cheap;
      }
        where
          not-root : 0 ≡ k → ⊥
          not-root q =
              let v = way-at kept ways 0 s.as_many s.some in
              let z = pair-at kept ways 0 v.0 s.as_many v.1 in
              let t = im.better z.0 v.0 (subst (λ n. IsAt kept ways n z.0 v.0) q z.1) in
              let r = s.root z.0 v.0 z.1 in
              let short : m.length ≤ v.0.length = t.1.short (omega (arith, t.1.cheap, r.0)) in
              omega (arith, r.1, g.longer)
