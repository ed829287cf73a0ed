-- The steps of a breadth-first search for plans.
use Rattle.std.proofs.Common.{◌≡◌, ◌≤◌, ◌<◌, ◌⊎◌, ℕ, suc, ◌+◌, List, [], ◌∷◌, ◌++◌, length, take, drop, slice_get, Option, Some, None}
use Rattle.std.proofs.Common.{IsTrue, is_some, Less, refl, sym, subst, inl, inr, arith, eq-or-lt_of_le}
use Rattle.std.specs.Option.{option_map}
use Rattle.std.proofs.lemmas.Option.{slice_get_within}
use Rattle.tl_syntax.specs.declared.action.Action.{Action}
use Rattle.tl_syntax.specs.Lists.{Among, Rises}
use Rattle.tl_terms.specs.Problem.{PlainProblem}
use Rattle.tl_terms.specs.World.{World}
use Rattle.tl_terms.specs.Step.{step}
use Rattle.tl_terms.specs.LawsOrders.{OrdersTotally}
use Rattle.tl_terms.specs.Orders.{action_cmp}
use Rattle.tl_terms.specs.Pairs.{Pair}
use Rattle.tl_terms.proofs.OrderLaws.{actions-total}
use Rattle.tl_breadth.specs.Searched.{Offers}
use Rattle.tl_search.specs.Kept.{AreKept}
use Rattle.tl_breadth.specs.Searched.{IsSearched}
use Rattle.tl_search.specs.PairGraph.{pair_in, next_pair, pair_graph}
use Rattle.tl_search.specs.KeptPairs.{KeptPair}
use Rattle.tl_breadth.specs.BreadthFirst.{IsBreadthFirst}
use Rattle.tl_search.specs.ListedActions.{ListsActions}
use Rattle.tl_search.proofs.WalkLaws.{length-snoc}
use Rattle.tl_search.proofs.ListLaws.{get-either, get-single, get-one, not-earlier, comes-later, take-next, split-at}
use Rattle.tl_breadth.proofs.SearchSteps.{kept-root, searched-root, searched-pruned, searched-seen, searched-fresh, searched-next}
use Rattle.tl_search.proofs.PathLaws.{unless-pruned}

pub pairs-ordered : (p : PlainProblem) → OrdersTotally (pair_graph p).cmp
unfolding pair_graph
pairs-ordered p = actions-total

-- the listed actions have all that lead on
pub lists-offers : (p : PlainProblem) (x : Pair) (listed : List Action) → ListsActions p x.world listed → Offers (pair_graph p) x listed
unfolding pair_graph
lists-offers p x listed l = record {
  rises = l.rises;
  complete = λ a w e.
      (l.exact a).1 (by_step (step p x.world a) w ((unless-pruned (next_pair p x a) w).0 e).0);
}
  where
    by_step : (o : Option World) (w : Pair) → option_map (pair_in p x.formula) o ≡ Some w → IsTrue (is_some o)
    by_step None w e = let b : ⊥ = cc in absurd b
    by_step (Some v) w e = refl

module _ (p : PlainProblem) (n : ℕ) where
  pub breadth-root : (x : Pair) → (pair_graph p).root ≡ Some x → IsBreadthFirst p n (record { node = x; path = [] } ∷ []) 0 []
  breadth-root x e = record {
    are_kept = kept-root (pair_graph p) (pairs-ordered p) x e;
    searched = searched-root (pair_graph p) (pairs-ordered p) x;
    near = λ i y at. subst (λ (z : KeptPair). length z.path ≤ n) (get-single (record { node = x; path = [] }) i y at).1
        (let q : 0 ≤ n = omega arith in q);
    expanded = λ i y at less. (let b : ⊥ = omega arith in absurd b);
  }

  module _ (kept : List KeptPair) (done : ℕ) (x : KeptPair) (listed : List Action) (l : ListsActions p x.node.world listed)
      (at : slice_get kept done ≡ Some x) where
    -- all that is listed was tried
    pub breadth-next : IsBreadthFirst p n kept done listed → length x.path < n → IsBreadthFirst p n kept (done + 1) []
    breadth-next s short = record {
      are_kept = s.are_kept;
      searched = searched-next (pair_graph p) (pairs-ordered p) kept done listed x s.searched at (lists-offers p x.node listed l).complete;
      near = s.near;
      expanded = λ i y there less. by_place i y there (let q : i ≤ done = omega arith in eq-or-lt_of_le q);
    }
      where
        by_place : (i : ℕ) (y : KeptPair) → slice_get kept i ≡ Some y → (i ≡ done) ⊎ (i < done) → length y.path < n
        by_place i y there (inl same) = subst (λ (z : KeptPair). length z.path < n)
            (get-one kept done x y at (subst (λ j. slice_get kept j ≡ Some y) same there)) short
        by_place i y there (inr less) = s.expanded i y there less

    module _ (k : ℕ) (a : Action) (turn : slice_get listed k ≡ Some a) (s : IsBreadthFirst p n kept done (take k listed)) where
      new-now : Among a (take k listed) → ⊥
      new-now = not-earlier action_cmp actions-total (take k listed) a (drop (suc k) listed)
          (subst (Rises action_cmp) (sym (split-at listed k a turn)) l.rises)

      later-now : (b : Action) (w : Pair) → (pair_graph p).after x.node b ≡ Some w → (Among b (take k listed ++ a ∷ []) → ⊥) →
          (pair_graph p).cmp a b ≡ Less
      unfolding pair_graph
      later-now b w e m = comes-later action_cmp actions-total (take k listed) a (drop (suc k) listed) b
          (subst (Rises action_cmp) (sym (split-at listed k a turn)) l.rises)
          (subst (Among b) (sym (split-at listed k a turn)) ((lists-offers p x.node listed l).complete b w e)) m

      pub breadth-pruned : (pair_graph p).after x.node a ≡ None → IsBreadthFirst p n kept done (take (k + 1) listed)
      breadth-pruned e = record {
        are_kept = s.are_kept;
        searched = subst (IsSearched (pair_graph p) kept done) (sym (take-next listed k a turn))
            (searched-pruned (pair_graph p) (pairs-ordered p) kept done (take k listed) x a s.searched at e);
        near = s.near;
        expanded = s.expanded;
      }

      pub breadth-seen : (m : ℕ) (u : KeptPair) → slice_get kept m ≡ Some u → (pair_graph p).after x.node a ≡ Some u.node →
          IsBreadthFirst p n kept done (take (k + 1) listed)
      breadth-seen m u met e = record {
        are_kept = s.are_kept;
        searched = subst (IsSearched (pair_graph p) kept done) (sym (take-next listed k a turn))
            (searched-seen (pair_graph p) (pairs-ordered p) kept done (take k listed) x a m u s.searched at new-now met e);
        near = s.near;
        expanded = s.expanded;
      }

      pub breadth-fresh : (v : Pair) → (pair_graph p).after x.node a ≡ Some v →
          AreKept (pair_graph p) (kept ++ record { node = v; path = x.path ++ a ∷ [] } ∷ []) → length x.path < n →
          IsBreadthFirst p n (kept ++ record { node = v; path = x.path ++ a ∷ [] } ∷ []) done (take (k + 1) listed)
      breadth-fresh v e all short = record {
        are_kept = all;
        searched = subst (IsSearched (pair_graph p) (kept ++ new ∷ []) done) (sym (take-next listed k a turn))
            (searched-fresh (pair_graph p) (pairs-ordered p) kept done (take k listed) x a v s.searched at new-now later-now e);
        near = λ i y there. elim (get-either kept new i y there) [
          | inl h ↦ s.near i y h
          | inr h ↦ subst
              (λ (z : KeptPair). length z.path ≤ n) h.1 (let q : length (x.path ++ a ∷ []) ≤ n = omega (arith, length-snoc x.path a) in q)
        ];
        expanded = λ i y there less. elim (get-either kept new i y there) [
          | inl h ↦ s.expanded i y h less
          | inr h ↦
              (let q : done < length kept = slice_get_within kept done x at in let b : ⊥ = omega (arith, h.0) in absurd b)
        ];
      }
        where
          new : KeptPair
          new = record { node = v; path = x.path ++ a ∷ [] }
