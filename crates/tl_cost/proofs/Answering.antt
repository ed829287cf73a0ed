-- What a search for a cheapest plan answers.
use Rattle.std.proofs.Common.{◌≡◌, ◌≤◌, ◌<◌, ◌⊎◌, ℕ, ◌+◌, Bool, false, List, [], ◌∷◌, ◌++◌, length, slice_get, Option, Some, None, refl}
use Rattle.std.proofs.Common.{sym, ap, ◌∙◌, subst, inl, inr, arith, add-one}
use Rattle.std.proofs.lemmas.Option.{slice_get_within}
use Rattle.tl_syntax.specs.declared.action.Action.{Action}
use Rattle.tl_terms.specs.Looked.{looked_by_action, looked_by_idling, looked_by_progressing}
use Rattle.tl_terms.specs.Pairs.{Pair, pair_of, IsOpen, IsPairAccepted}
use Rattle.tl_terms.specs.Problem.{PlainProblem}
use Rattle.tl_terms.specs.Step.{step}
use Rattle.tl_terms.specs.World.{World}
use Rattle.tl_eval.specs.Notes.{Tells, operation_of}
use Rattle.tl_eval.specs.declared.range.RangeNote.{RangeNote}
use Rattle.tl_world.specs.declared.task.Task.{Task}
use Rattle.tl_search.specs.Calls.{AreNamedIn}
use Rattle.tl_search.specs.Graphs.{walk}
use Rattle.tl_search.specs.Kept.{AreKept}
use Rattle.tl_search.specs.KeptPairs.{KeptPair, pairs_of}
use Rattle.tl_search.specs.PairGraph.{pair_graph}
use Rattle.tl_search.proofs.KeptLaws.{pair-kept}
use Rattle.tl_search.proofs.NamedLaws.{path-named}
use Rattle.tl_search.proofs.PathLaws.{walk-pair, walk-open, walk-accepted, prefix-open}
use Rattle.tl_search.proofs.RangeLaws.{range-by-idling, range-by-action, range-after}
use Rattle.tl_search.proofs.WalkLaws.{by_last, length-snoc, walk-onward}
use Rattle.tl_search.proofs.ListLaws.{get-one, get-either, get-inside}
use Rattle.tl_cost.specs.LeastCosts.{AreNearPairs, BeginsCheaply, HasNoCheaperPlan, IsCheapestCause, IsCheapestPlan, IsLeastCost}
use Rattle.tl_cost.specs.LeastCosts.{IsNearPair}
use Rattle.tl_cost.specs.Ongoing.{IsAt, IsLinked, IsOngoing}
use Rattle.tl_cost.specs.PlanCosts.{action_cost, plan_cost}
use Rattle.tl_cost.specs.Ways.{AreLinked, Follows, at_root, onward, entry_of}
use Rattle.tl_cost.specs.declared.open_list.Entry.{Entry}
use Rattle.tl_cost.specs.declared.ways.Way.{Way}
use Rattle.tl_cost.specs.declared.ways.LastStep.{LastStep}
use Rattle.tl_cost.proofs.CostOrder.{plan-cost-snoc}
use Rattle.tl_cost.proofs.Improving.{pair-at}

-- a path that the last steps of ways give
pub record IsFollowed (p : PlainProblem) (task : Task) (costs : List ℕ) (x : Pair) (w : Way) (path : List Action) : Type 0 where
  pub walks : walk (pair_graph p) path ≡ Some x
  pub its_cost : plan_cost costs path ≡ w.cost
  pub its_length : length path ≡ w.length
  pub named : AreNamedIn task path

-- the least cost of a pair is that of a path to it to which none costs less
least-of : (p : PlainProblem) (costs : List ℕ) (path : List Action) (x : Pair) (c : ℕ) → walk (pair_graph p) path ≡ Some x →
    plan_cost costs path ≡ c → ((other : List Action) → walk (pair_graph p) other ≡ Some x → c ≤ plan_cost costs other) →
    IsLeastCost p costs x c
least-of p costs path x c e cost least = record {
  path = path;
  open_path = (walk-open p path).1 (x, e);
  its_pair = ((walk-pair p path x).0 e).0;
  its_cost = cost;
  least = λ other h q. least other ((walk-pair p other x).1 (q, ((walk-pair p path x).0 e).1));
}

-- an open path that costs no more than any accepted plan begins cheaply
begins-of : (p : PlainProblem) (costs : List ℕ) (path : List Action) → IsOpen p path → HasNoCheaperPlan p costs (plan_cost costs path) →
    (path ≡ []) ⊎ BeginsCheaply p costs path
begins-of p costs = by_last (λ path. IsOpen p path → HasNoCheaperPlan p costs (plan_cost costs path) → (path ≡ []) ⊎
    BeginsCheaply p costs path) (λ _ _. inl refl) (λ front a earlier h cheap. inr (record {
      front = front;
      last = a;
      parts = refl;
      open_front = prefix-open p front (a ∷ []) h;
      cheap = λ plan k. (let q : plan_cost costs (front ++ a ∷ []) ≤ plan_cost costs plan = cheap plan k in
          omega (arith, plan-cost-snoc costs front a));
    }))

module _ (p : PlainProblem) (task : Task) (costs : List ℕ) (b : ℕ) (kept : List KeptPair) (ways : List Way) (open_ : Entry → Bool)
    (opened cost length_ at : ℕ) (rest : Option (List Action)) (s : IsOngoing p task costs b kept ways open_ opened cost length_ at rest)
  where
    -- the last steps go back to shorter ways
    pub are-linked : AreLinked ways
    are-linked k w last e l = let x = pair-at kept ways k w s.as_many e in by_step w.last l (s.linked k x.0 w x.1)
      where
        by_step : (o : Option LastStep) → o ≡ Some last → IsLinked p costs kept ways open_ k
            (pair-at kept ways k w s.as_many e).0.node w o →
            (v : Way) × (slice_get ways last.from ≡ Some v) × (w.length ≡ v.length + 1)
        by_step None q h = let c : ⊥ = cc in absurd c
        by_step (Some r) q h = let d : r ≡ last = cc in subst (λ (u : LastStep). (v : Way) × (slice_get ways u.from ≡ Some v) ×
            (w.length ≡ v.length + 1)) d (h.its_way, h.is_at.way, h.longer)

    -- what they give is a path to the pair, of its way's cost and length
    pub followed : (k : ℕ) (path : List Action) (x : KeptPair) (w : Way) → IsAt kept ways k x w → Follows ways k path →
        IsFollowed p task costs x.node w path
    followed k path x w i (at_root j v e none) = by_step w.last refl (s.linked k x w i)
      where
        same : w ≡ v
        same = get-one ways k w v i.way e

        by_step : (o : Option LastStep) → w.last ≡ o → IsLinked p costs kept ways open_ k x.node w o → IsFollowed p task costs x.node w []
        by_step (Some r) q h = let d : Some r ≡ None = sym q ∙ (ap (λ (u : Way). u.last) same ∙ none) in let c : ⊥ = cc in absurd c
        by_step None q h =
            let z = s.root x w (subst (λ n. IsAt kept ways n x w) h i) in
            record {
              walks = ap (walk (pair_graph p)) (sym (s.are_kept.begins x (subst (λ n. slice_get kept n ≡ Some x) h i.pair))) ∙
                  s.are_kept.walks k x i.pair;
              its_cost = sym z.0;
              its_length = sym z.1;
              named = tt;
            }
    followed k path x w i (onward j v last front whole e l before parts) =
        by_step w.last refl (s.linked k x w i) (λ y u o. followed last.from front y u o before)
      where
        same : w ≡ v
        same = get-one ways k w v i.way e

        is : w.last ≡ Some last
        is = ap (λ (u : Way). u.last) same ∙ l

        by_step : (o : Option LastStep) → w.last ≡ o → IsLinked p costs kept ways open_ k x.node w o →
            ((y : KeptPair) (u : Way) → IsAt kept ways last.from y u → IsFollowed p task costs y.node u front) →
            IsFollowed p task costs x.node w path
        by_step None q h earlier = let d : None ≡ Some last = sym q ∙ is in let c : ⊥ = cc in absurd c
        by_step (Some r) q h earlier =
            let d : r ≡ last = (let z : Some r ≡ Some last = sym q ∙ is in cc) in
            let f = earlier h.before h.its_way (subst (λ (u : LastStep). IsAt kept ways u.from h.before h.its_way) d h.is_at) in
            let leads : (pair_graph p).after h.before.node last.action ≡ Some x.node =
            subst (λ (u : LastStep). (pair_graph p).after h.before.node u.action ≡ Some x.node) d h.leads in
            subst (IsFollowed p task costs x.node w) (sym parts) (record {
              walks = walk-onward (pair_graph p) front last.action h.before.node x.node f.walks leads;
              its_cost = plan-cost-snoc costs front last.action ∙ (ap (λ n. n + action_cost costs last.action) f.its_cost ∙
                  (ap (λ (u : LastStep). h.its_way.cost + action_cost costs u.action) (sym d) ∙ sym h.cost));
              its_length = length-snoc front last.action ∙ (sym (add-one (length front)) ∙ (ap (λ n. n + 1) f.its_length ∙ sym h.longer));
              named = path-named task front last.action f.named (s.named k w last i.way is);
            })

    -- the pair after an action of a settled pair is near
    near-after : (j : ℕ) (z : KeptPair) (u : Way) (a : Action) (y : Pair) → IsAt kept ways j z u → open_ (entry_of u j) ≡ false →
        (pair_graph p).after z.node a ≡ Some y → IsNearPair p costs y
    near-after j z u a y i settled leads =
        let first : walk (pair_graph p) z.path ≡ Some z.node = s.are_kept.walks j z i.pair in
        let whole : walk (pair_graph p) (z.path ++ a ∷ []) ≡ Some y = walk-onward (pair_graph p) z.path a z.node y first leads in
        let r = s.reached j z u i in
        record {
          path = z.path ++ a ∷ [];
          open_path = (walk-open p (z.path ++ a ∷ [])).1 (y, whole);
          its_pair = ((walk-pair p (z.path ++ a ∷ []) y).0 whole).0;
          near = inr (record {
            front = z.path;
            last = a;
            parts = refl;
            before = z.node;
            its_pair = ((walk-pair p z.path z.node).0 first).0;
            cost = u.cost;
            its_cost = least-of p costs r.path z.node u.cost r.walks r.its_cost (λ other f. (s.least j z u i settled other f).cheap);
            cheap = λ plan h. (let t = s.cheap plan h in let q = s.below j z u i settled in omega (arith, t.cheap, q.cheap));
          });
        }

    -- each kept pair is near
    near-kept : (j : ℕ) (z : KeptPair) → slice_get kept j ≡ Some z → IsNearPair p costs z.node
    near-kept j z e = by_step u.0.last (s.linked j z u.0 i)
      where
        u : (w : Way) × (slice_get ways j ≡ Some w)
        u = get-inside ways j (omega (arith, s.as_many, slice_get_within kept j z e))

        i : IsAt kept ways j z u.0
        i = record { pair = e; way = u.1 }

        by_step : (o : Option LastStep) → IsLinked p costs kept ways open_ j z.node u.0 o → IsNearPair p costs z.node
        by_step None h =
            let w : walk (pair_graph p) [] ≡ Some z.node = ap (walk (pair_graph p))
            (sym (s.are_kept.begins z (subst (λ n. slice_get kept n ≡ Some z) h e))) ∙ s.are_kept.walks j z e in
            record { path = []; open_path = (walk-open p []).1 (z.node, w); its_pair = ((walk-pair p [] z.node).0 w).0; near = inl refl }
        by_step (Some r) h = near-after r.from h.before h.its_way r.action z.node h.is_at h.settled h.leads

    -- with the pair after an action of a settled one, all kept pairs are near
    pub spent-near : (more : List KeptPair) (y : KeptPair) (j : ℕ) (z : KeptPair) (u : Way) (a : Action) → AreKept (pair_graph p) more →
        more ≡ kept ++ y ∷ [] → IsAt kept ways j z u → open_ (entry_of u j) ≡ false → (pair_graph p).after z.node a ≡ Some y.node →
        AreNearPairs p costs (pairs_of more)
    spent-near more y j z u a are is i settled leads = record {
      differ = λ m n v e f. (let g = pair-kept more m v e in let h = pair-kept more n v f in
          are.differ m n g.0 h.0 g.1 h.1 (g.2 ∙ sym h.2));
      near = λ n v e. (let g = pair-kept more n v e in subst (IsNearPair p costs) g.2
          (elim (get-either kept y n g.0 (subst (λ xs. slice_get xs n ≡ Some g.0) is g.1)) [
            | inl h ↦ near-kept n g.0 h
            | inr h ↦ subst (λ (v : KeptPair). IsNearPair p costs v.node) h.1 (near-after j z u a y.node i settled leads)
          ]));
    }

    module _ (x : KeptPair) (w : Way) (here : IsAt kept ways at x w) (settled : open_ (entry_of w at) ≡ false) (is_cost : cost ≡ w.cost)
        (is_length : length_ ≡ w.length) where
      -- no accepted plan costs less than the way of the pair whose turn it is
      turn-cheap : HasNoCheaperPlan p costs w.cost
      turn-cheap plan h = let t = s.cheap plan h in omega (arith, t.cheap, is_cost)

      turn-shorter : w.length < b
      turn-shorter = let q : w.length + opened < length kept = s.settled_short at w here.way settled in omega (arith, s.few)

      module _ (path : List Action) (f : Follows ways at path) where
        on : IsFollowed p task costs x.node w path
        on = followed at path x w here f

        its-pair : pair_of p path ≡ Some x.node
        its-pair = ((walk-pair p path x.node).0 on.walks).0

        its-open : IsOpen p path
        its-open = (walk-open p path).1 (x.node, on.walks)

        -- an accepted pair gives a cheapest plan
        pub turn-plan : IsPairAccepted p x.node → IsCheapestPlan p costs path w.cost
        turn-plan h = record {
          accepted = (walk-accepted p path).1 (x.node, on.walks, h);
          its_cost = on.its_cost;
          least = turn-cheap;
          shortest = λ other k e. (let t = s.cheap other k in let q : length_ ≤ length other = t.short (omega (arith, is_cost, e)) in
              omega (arith, on.its_length, is_length));
        }

        pub turn-named : AreNamedIn task path
        turn-named = on.named

        cheap-here : HasNoCheaperPlan p costs (plan_cost costs path)
        cheap-here plan h = let q : w.cost ≤ plan_cost costs plan = turn-cheap plan h in omega (arith, on.its_cost)

        begins-here : (path ≡ []) ⊎ BeginsCheaply p costs path
        begins-here = begins-of p costs path its-open cheap-here

        pub turn-idling : (note : RangeNote) → Tells (looked_by_idling p x.node.world x.node.formula) note →
            IsCheapestCause p costs b path (operation_of note)
        turn-idling note t = record {
          cause = range-by-idling p b (operation_of note) t.1 path x.node its-pair its-open
              (omega (arith, on.its_length, turn-shorter)) t.0;
          begins = begins-here;
        }

        pub turn-acting : (note : RangeNote) (a : Action) → Tells (looked_by_action p x.node.world a) note →
            IsCheapestCause p costs b path (operation_of note)
        turn-acting note a t = record {
          cause = range-by-action p b (operation_of note) t.1 path x.node its-pair its-open
              (omega (arith, on.its_length, turn-shorter)) a t.0;
          begins = begins-here;
        }

        pub turn-after : (note : RangeNote) (a : Action) (v : World) → step p x.node.world a ≡ Some v →
            Tells (looked_by_progressing p v x.node.formula) note → IsCheapestCause p costs b (path ++ a ∷ []) (operation_of note)
        turn-after note a v d t = record {
          cause = range-after p b (operation_of note) t.1 path x.node its-pair its-open
              (omega (arith, on.its_length, turn-shorter)) a v d t.0;
          begins = inr (record { front = path; last = a; parts = refl; open_front = its-open; cheap = cheap-here });
        }
