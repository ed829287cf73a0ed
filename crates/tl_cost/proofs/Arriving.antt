-- What a search does with the pair after an action.
use Rattle.std.proofs.Common.{◌≡◌, ◌≢◌, ◌≤◌, ◌<◌, ◌↔◌, ℕ, ◌+◌, ◌*◌, Bool, true, false, List, [], ◌∷◌, ◌++◌, length, slice_get, Option, Some}
use Rattle.std.proofs.Common.{refl, sym, ap, ◌∙◌, subst, inl, inr, arith}
use Rattle.std.proofs.lemmas.List.{length-set}
use Rattle.std.proofs.lemmas.Option.{slice_get_within}
use Rattle.tl_syntax.specs.declared.action.Action.{Action}
use Rattle.tl_syntax.specs.Trees.{falsum}
use Rattle.tl_terms.specs.Pairs.{Pair}
use Rattle.tl_terms.specs.Problem.{PlainProblem}
use Rattle.tl_world.specs.declared.task.Task.{Task}
use Rattle.tl_match.proofs.Matching.{set-at, set-other}
use Rattle.tl_search.specs.Arrivals.{Arrives}
use Rattle.tl_search.specs.Graphs.{walk}
use Rattle.tl_search.specs.Kept.{AreKept}
use Rattle.tl_search.specs.KeptPairs.{KeptPair}
use Rattle.tl_search.specs.NamedAnswers.{IsNamedIn}
use Rattle.tl_search.specs.PairGraph.{next_pair, pair_graph}
use Rattle.tl_search.specs.declared.arrival.Arrival.TheVariants as arrival
use Rattle.tl_search.proofs.ListLaws.{get-old, get-new, get-either, get-inside}
use Rattle.tl_search.proofs.PathLaws.{unless-pruned, walk-pair}
use Rattle.tl_search.proofs.WalkLaws.{length-snoc}
use Rattle.tl_cost.specs.Ongoing.{IsAt, IsInTurn}
use Rattle.tl_cost.specs.Outcomes.{IsSpentNear, OpensAsMany}
use Rattle.tl_cost.specs.PlanCosts.{action_cost}
use Rattle.tl_cost.specs.Ticks.{Extends, StaySettled}
use Rattle.tl_cost.specs.Ways.{ComesNoLater, Adds, GoesOn, HasRoomAfter, Improves, IsMet, Meets, entry_of, is_listed, listed_len}
use Rattle.tl_cost.specs.declared.open_list.Entry.{Entry}
use Rattle.tl_cost.specs.declared.ways.Way.{Way}
use Rattle.tl_cost.specs.declared.ways.Found.{Found}
use Rattle.tl_cost.proofs.CostOrder.{upto-trans, upto-from, upto-never}
use Rattle.tl_cost.proofs.Entries.{same-entry}
use Rattle.tl_cost.proofs.Settling.{at-one, skip-action}
use Rattle.tl_cost.proofs.Improving.{IsImproved, pair-at, settled-on, improve}
use Rattle.tl_cost.proofs.Answering.{spent-near}

true-false : (t : Bool) → t ≡ true → t ≡ false → ⊥
true-false t e f = let d : true ≡ false = sym e ∙ f in cc

after-some : (p : PlainProblem) (x y : Pair) (a : Action) → next_pair p x a ≡ Some y → y.formula ≢ falsum → (pair_graph p).after x a ≡
    Some y
unfolding pair_graph
after-some p x y a e n = (unless-pruned (next_pair p x a) y).1 (e, n)

-- a pruned pair is no successor
after-none : (p : PlainProblem) (x y z : Pair) (a : Action) → next_pair p x a ≡ Some y → y.formula ≡ falsum → (pair_graph p).after x a ≡
    Some z → ⊥
unfolding pair_graph
after-none p x y z a e f g =
    let k = (unless-pruned (next_pair p x a) z).0 g in
    let d : Some y ≡ Some z = sym e ∙ k.0 in
    let s : y ≡ z = cc in
    k.1 (ap (λ (u : Pair). u.formula) (sym s) ∙ f)

-- there is room for one more action
pub turn-room : (p : PlainProblem) (task : Task) (costs : List ℕ) (b : ℕ) (kept : List KeptPair) (found : Found) (at : ℕ)
    (rest : Option (List Action)) → IsInTurn p task costs b kept found at rest → b ≤ 100000 → HasRoomAfter found at
turn-room p task costs b kept found at rest t few =
    let s = t.ongoing in
    let q : t.way.length + listed_len found.open_list < length kept = s.settled_short at t.way t.is_at.way t.settled in
    let r : t.way.cost ≤ 4294967296 * t.way.length = s.small at t.way t.is_at.way in
    record { way = t.way; its_way = t.is_at.way; cheap = omega (arith, s.few); short = omega (arith, s.few) }

module _ (p : PlainProblem) (task : Task) (costs : List ℕ) (b : ℕ) (kept : List KeptPair) (found : Found) (at : ℕ) (a : Action)
    (rest : List Action) (t : IsInTurn p task costs b kept found at (Some (a ∷ rest))) where
  -- ---- a pair that is fresh

  -- nothing is listed for it
  pub fresh-unlisted : (m : Way) → is_listed found.open_list (entry_of m (length found.ways.items)) ≡ false
  fresh-unlisted m = by_list (is_listed found.open_list (entry_of m (length found.ways.items))) refl
    where
      by_list : (l : Bool) → is_listed found.open_list (entry_of m (length found.ways.items)) ≡ l →
          is_listed found.open_list (entry_of m (length found.ways.items)) ≡ false
      by_list false e = e
      by_list true e =
          let x = t.ongoing.exact (entry_of m (length found.ways.items)) e in
          let q : length found.ways.items < length found.ways.items = slice_get_within found.ways.items
          (length found.ways.items) x.1 x.2.way in
          absurd (omega arith)

  module _ (more : List KeptPair) (k : ℕ) (h : Arrives kept more (next_pair p t.pair.node a) (t.pair.path ++ a ∷ []) (arrival.Fresh k))
    where
      abbrev y : KeptPair
      y = record { node = h.1.0; path = t.pair.path ++ a ∷ [] }

      leads : (pair_graph p).after t.pair.node a ≡ Some h.1.0
      leads = after-some p t.pair.node h.1.0 a h.1.1 h.1.2

      long : length more ≡ length kept + 1
      long = let e = length-snoc kept y in omega (arith, ap length h.1.3, e)

      -- one too many
      pub fresh-spent : AreKept (pair_graph p) more → k ≡ b → IsSpentNear p costs b more
      fresh-spent are e = record {
        many = omega (arith, long, h.0);
        near = spent-near p task costs b kept found.ways.items (is_listed found.open_list)
            (listed_len found.open_list) t.way.cost t.way.length at (Some (a ∷ rest)) t.ongoing more y at t.pair t.way a are h.1.3 t.is_at
            t.settled leads;
      }

      module _ (after : Found) (m : Way) (is : after.ways.items ≡ found.ways.items ++ m ∷ [])
          (adds : Adds (is_listed found.open_list) (is_listed after.open_list) (entry_of m (length found.ways.items)))
          (g : GoesOn costs t.way at a m) where
        here : k ≡ length found.ways.items
        here = h.0 ∙ sym t.ongoing.as_many

        improved : IsImproved kept found.ways.items (is_listed found.open_list) more after.ways.items (is_listed after.open_list) k y m
        improved = record {
          there = record {
            pair = subst (λ n. slice_get more n ≡ Some y) (sym h.0) (subst (λ xs. slice_get xs (length kept) ≡ Some y) (sym h.1.3)
                (get-new kept y));
            way = subst (λ n. slice_get after.ways.items n ≡ Some m) (sym here)
                (subst (λ xs. slice_get xs (length found.ways.items) ≡ Some m) (sym is) (get-new found.ways.items m));
          };
          opened = ap (λ n. is_listed after.open_list (entry_of m n)) here ∙ adds.is;
          stays = λ i x w n q. record {
            pair = subst (λ xs. slice_get xs i ≡ Some x) (sym h.1.3) (get-old kept (y ∷ []) i x q.pair);
            way = subst (λ xs. slice_get xs i ≡ Some w) (sym is) (get-old found.ways.items (m ∷ []) i w q.way);
          };
          stayed = λ i x w n q. record {
            pair = elim (get-either kept y i x (subst (λ xs. slice_get xs i ≡ Some x) h.1.3 q.pair)) [
              | inl r ↦ r
              | inr r ↦ absurd
                  (n (r.0 ∙ sym h.0))
            ];
            way = elim (get-either found.ways.items m i w (subst (λ xs. slice_get xs i ≡ Some w) is q.way)) [
              | inl r ↦ r
              | inr r ↦ absurd
                  (n (r.0 ∙ sym here))
            ];
          };
          same = λ e n. adds.others e (λ q. n (ap (λ (u : Entry). u.number) q ∙ sym here));
          only = λ e q l. elim (same-entry e (entry_of m (length found.ways.items))) [
            | yes r ↦ r ∙ ap (λ n. entry_of m n) (sym here)
            | no n ↦ (let x = t.ongoing.exact e (sym (adds.others e n) ∙ l) in
                let r : e.number < length found.ways.items = slice_get_within found.ways.items e.number x.1 x.2.way in
                absurd (omega (arith, here)))
          ];
          better = λ x u q. (let r : k < length found.ways.items = slice_get_within found.ways.items k u q.way in
              absurd (omega (arith, here)));
        }

        -- the pair of a settled one stays so
        pub fresh-stay : (j : ℕ) (z : KeptPair) (v : Way) → IsAt kept found.ways.items j z v → is_listed found.open_list (entry_of v j) ≡
            false → IsAt more after.ways.items j z v × (is_listed after.open_list (entry_of v j) ≡ false)
        fresh-stay = settled-on p task costs b kept found.ways.items (is_listed found.open_list)
            (listed_len found.open_list) at t.pair t.way t.is_at t.settled a rest t.ongoing more after.ways.items
            (is_listed after.open_list) 0 k y m improved g

        pub fresh-turn : AreKept (pair_graph p) more → (k ≡ b → ⊥) → listed_len after.open_list ≡ listed_len found.open_list + 1 →
            IsNamedIn task a → IsInTurn p task costs b more after at (Some rest)
        fresh-turn are room len named =
            let o = fresh-stay at t.pair t.way t.is_at t.settled in
            record {
              pair = t.pair;
              way = t.way;
              is_at = o.0;
              settled = o.1;
              ongoing = improve p task costs b kept found.ways.items (is_listed found.open_list)
                  (listed_len found.open_list) at t.pair t.way t.is_at t.settled a rest t.ongoing more after.ways.items
                  (is_listed after.open_list) (listed_len after.open_list) k y m improved g are
                  (let e = length-snoc found.ways.items m in omega (arith, ap length is, e, long, t.ongoing.as_many))
                  (omega (arith, long)) (omega (arith, long, h.0, t.ongoing.few, room)) (omega (arith, long, len)) leads named;
            }

        pub fresh-opens : listed_len after.open_list ≡ listed_len found.open_list + 1 → OpensAsMany kept more found after
        fresh-opens len = omega (arith, long, len)

  -- ---- a pair that is seen again

  module _ (more : List KeptPair) (k : ℕ) (h : Arrives kept more (next_pair p t.pair.node a) (t.pair.path ++ a ∷ []) (arrival.Seen k)) where
    unpruned : h.1.0.node.formula ≢ falsum
    unpruned = let q : (walk (pair_graph p) h.1.0.path ≡ Some h.1.0.node) ↔ _ = walk-pair p h.1.0.path h.1.0.node in
        (q.0 (t.ongoing.are_kept.walks k h.1.0 h.1.1)).1

    seen-leads : (pair_graph p).after t.pair.node a ≡ Some h.1.0.node
    seen-leads = after-some p t.pair.node h.1.0.node a h.1.2 unpruned

    abbrev pub its-way : (u : Way) × (slice_get found.ways.items k ≡ Some u)
    its-way = get-inside found.ways.items k (omega (arith, t.ongoing.as_many, slice_get_within kept k h.1.0 h.1.1))

    its-place : IsAt kept found.ways.items k h.1.0 its-way.0
    its-place = record { pair = h.1.1; way = its-way.1 }

    -- where the new way comes no later, the pair is open
    opened : ComesNoLater (t.way.cost + action_cost costs a) (t.way.length + 1) its-way.0.cost its-way.0.length →
        is_listed found.open_list (entry_of its-way.0 k) ≡ true
    opened u = by_list (is_listed found.open_list (entry_of its-way.0 k)) refl
      where
        by_list : (l : Bool) → is_listed found.open_list (entry_of its-way.0 k) ≡ l → is_listed found.open_list (entry_of its-way.0 k) ≡
            true
        by_list true e = e
        by_list false e = absurd (upto-never t.way.cost t.way.length (action_cost costs a)
            (upto-trans (t.way.cost + action_cost costs a) (t.way.length + 1) its-way.0.cost its-way.0.length t.way.cost t.way.length u
            (t.ongoing.below k h.1.0 its-way.0 its-place e)))

    exactly : (e : Entry) → is_listed found.open_list e ≡ true → e.number ≡ k → e ≡ entry_of its-way.0 k
    exactly e l q =
        let x = t.ongoing.exact e l in
        let o = at-one kept found.ways.items e.number k x.0 h.1.0 x.1 its-way.0 x.2 its-place q in
        x.3 ∙ (ap (λ (u : Way). entry_of u e.number) o.1 ∙ ap (λ n. entry_of its-way.0 n) q)

    pub seen-met : IsMet costs found t.way a k
    seen-met = record { way = its-way.0; its_way = its-way.1; opened = opened; exact = exactly }

    module _ (after : Found) (i : Improves costs found after t.way at a k its-way.0) where
      replaced : IsImproved kept found.ways.items (is_listed found.open_list) more after.ways.items
          (is_listed after.open_list) k h.1.0 i.way
      replaced = record {
        there = record {
          pair = subst (λ xs. slice_get xs k ≡ Some h.1.0) (sym h.0) h.1.1;
          way = subst (λ xs. slice_get xs k ≡ Some i.way) (sym i.ways)
              (set-at found.ways.items k i.way (slice_get_within found.ways.items k its-way.0 its-way.1));
        };
        opened = i.moves.is;
        stays = λ j x w n q. record {
          pair = subst (λ xs. slice_get xs j ≡ Some x) (sym h.0) q.pair;
          way = subst (λ xs. slice_get xs j ≡ Some w) (sym i.ways) (set-other found.ways.items k j i.way (λ e. n (sym e)) ∙ q.way);
        };
        stayed = λ j x w n q. record {
          pair = subst (λ xs. slice_get xs j ≡ Some x) h.0 q.pair;
          way = sym (set-other found.ways.items k j i.way (λ e. n (sym e))) ∙ subst (λ xs. slice_get xs j ≡ Some w) i.ways q.way;
        };
        same = λ e n. i.moves.others e (λ q. n (ap (λ (u : Entry). u.number) q)) (λ q. n (ap (λ (u : Entry). u.number) q));
        only = λ e q l. elim (same-entry e (entry_of i.way k)) [
          | yes r ↦ r
          | no n ↦ elim (same-entry e (entry_of its-way.0 k)) [
            | yes r ↦ absurd (true-false (is_listed after.open_list (entry_of its-way.0 k)) (ap (is_listed after.open_list) (sym r) ∙ l)
                (i.moves.gone (λ z. n (r ∙ z))))
            | no o ↦ absurd (o (exactly e (sym (i.moves.others e o n) ∙ l) q))
          ]
        ];
        better = λ x u q. (let o = at-one kept found.ways.items k k x h.1.0 u its-way.0 q its-place refl in (
          o.0,
          subst (λ (v : Way). ComesNoLater i.way.cost i.way.length v.cost v.length) (sym o.1) i.upto,
          subst (λ (v : Way). is_listed found.open_list (entry_of v k) ≡ true) (sym o.1)
              (opened (upto-from (t.way.cost + action_cost costs a) (t.way.length + 1) i.way.cost i.way.length its-way.0.cost
              its-way.0.length (sym i.goes_on.cost) (sym i.goes_on.longer) i.upto)),
        ));
      }

      pub replaced-stay : (j : ℕ) (z : KeptPair) (v : Way) → IsAt kept found.ways.items j z v → is_listed found.open_list (entry_of v j) ≡
          false → IsAt more after.ways.items j z v × (is_listed after.open_list (entry_of v j) ≡ false)
      replaced-stay = settled-on p task costs b kept found.ways.items (is_listed found.open_list)
          (listed_len found.open_list) at t.pair t.way t.is_at t.settled a rest t.ongoing more after.ways.items
          (is_listed after.open_list) 0 k h.1.0 i.way replaced i.goes_on

      pub replaced-turn : AreKept (pair_graph p) more → IsNamedIn task a → IsInTurn p task costs b more after at (Some rest)
      replaced-turn are named =
          let o = replaced-stay at t.pair t.way t.is_at t.settled in
          let e = ap length h.0 in
          record {
            pair = t.pair;
            way = t.way;
            is_at = o.0;
            settled = o.1;
            ongoing = improve p task costs b kept found.ways.items (is_listed found.open_list)
                (listed_len found.open_list) at t.pair t.way t.is_at t.settled a rest t.ongoing more after.ways.items
                (is_listed after.open_list) (listed_len after.open_list) k h.1.0 i.way replaced i.goes_on are
                (omega (arith, ap length i.ways, length-set found.ways.items k i.way, e, t.ongoing.as_many))
                (omega (arith, e, t.ongoing.some)) (omega (arith, e, t.ongoing.few)) (omega (arith, e, i.len)) seen-leads named;
          }

    -- the pair keeps its way
    pub seen-kept : ComesNoLater its-way.0.cost its-way.0.length (t.way.cost + action_cost costs a) (t.way.length + 1) →
        IsInTurn p task costs b more found at (Some rest)
    seen-kept u = subst (λ xs. IsInTurn p task costs b xs found at (Some rest)) (sym h.0) (record {
      pair = t.pair;
      way = t.way;
      is_at = t.is_at;
      settled = t.settled;
      ongoing = skip-action p task costs b kept found.ways.items (is_listed found.open_list)
          (listed_len found.open_list) at t.pair t.way t.is_at a rest t.ongoing (λ z f. record {
            number = k;
            pair = h.1.0;
            way = its-way.0;
            is_at = its-place;
            same = (let d : Some h.1.0.node ≡ Some z = sym seen-leads ∙ f in cc);
            upto = u;
          });
    })

    seen-still : (j : ℕ) (z : KeptPair) (v : Way) → IsAt kept found.ways.items j z v → IsAt more found.ways.items j z v
    seen-still j z v q = record { pair = subst (λ xs. slice_get xs j ≡ Some z) (sym h.0) q.pair; way = q.way }

    module _ (after : Found) (met : Meets costs found after t.way at a k its-way.0) where
      pub seen-turn : AreKept (pair_graph p) more → IsNamedIn task a → IsInTurn p task costs b more after at (Some rest)
      seen-turn are named = elim met [
        | inl q ↦ subst (λ (f : Found). IsInTurn p task costs b more f at (Some rest)) (sym q.0) (seen-kept q.1)
        | inr i ↦ replaced-turn after i are named
      ]

      pub seen-stay : (j : ℕ) (z : KeptPair) (v : Way) → IsAt kept found.ways.items j z v → is_listed found.open_list (entry_of v j) ≡
          false → IsAt more after.ways.items j z v × (is_listed after.open_list (entry_of v j) ≡ false)
      seen-stay j z v q e = elim met [
        | inl r ↦ subst (λ (f : Found). IsAt more f.ways.items j z v × (is_listed f.open_list (entry_of v j) ≡ false)) (sym r.0)
            (seen-still j z v q, e)
        | inr i ↦ replaced-stay after i j z v q e
      ]

      pub seen-opens : OpensAsMany kept more found after
      seen-opens = elim met [
        | inl r ↦ (let e = ap length h.0 in let l = ap (λ (f : Found). listed_len f.open_list) r.0 in omega (arith, e, l))
        | inr i ↦ (let e = ap length h.0 in omega (arith, e, i.len))
      ]

  -- ---- a pair that is pruned

  pub pruned-turn : (more : List KeptPair) → Arrives kept more (next_pair p t.pair.node a) (t.pair.path ++ a ∷ []) arrival.Pruned →
      IsInTurn p task costs b more found at (Some rest)
  pruned-turn more h = subst (λ xs. IsInTurn p task costs b xs found at (Some rest)) (sym h.0) (record {
    pair = t.pair;
    way = t.way;
    is_at = t.is_at;
    settled = t.settled;
    ongoing = skip-action p task costs b kept found.ways.items (is_listed found.open_list)
        (listed_len found.open_list) at t.pair t.way t.is_at a rest t.ongoing
        (λ z f. absurd (after-none p t.pair.node h.1.0 z a h.1.1 h.1.2 f));
  })

-- ---- what stays

-- the pairs of a fresh arrival are the kept ones and one more
pub fresh-extends : (old new : List KeptPair) (o : Option Pair) (path : List Action) (k : ℕ) → Arrives old new o path (arrival.Fresh k) →
    Extends old new
fresh-extends old new o path k h i x e = subst (λ xs. slice_get xs i ≡ Some x) (sym h.1.3)
    (get-old old (record { node = h.1.0; path = path } ∷ []) i x e)

-- settled pairs stay so, where those with a kept pair do
pub stay-settled : (kept more : List KeptPair) (old new : Found) → length old.ways.items ≡ length kept →
    ((j : ℕ) (z : KeptPair) (v : Way) → IsAt kept old.ways.items j z v → is_listed old.open_list (entry_of v j) ≡ false →
    IsAt more new.ways.items j z v × (is_listed new.open_list (entry_of v j) ≡ false)) → StaySettled old new
stay-settled kept more old new e stay j h =
    let z = pair-at kept old.ways.items j h.way e h.its_way in
    let t = stay j z.0 h.way z.1 h.settled in
    record { way = h.way; its_way = t.0.way; settled = t.1 }
