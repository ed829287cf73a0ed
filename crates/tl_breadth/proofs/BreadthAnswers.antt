-- What a breadth-first search for plans answers.
use Rattle.std.proofs.Common.{◌≡◌, ◌≢◌, ◌≤◌, ◌<◌, ◌⊎◌, ℕ, ◌+◌, List, length, slice_get, Some, None, Less, Equal, sym, ap, ◌∙◌, subst, inl}
use Rattle.std.proofs.Common.{inr, arith}
use native.Mathlib.Decide.{dec_lt}
use Rattle.std.specs.Cmp.{tied_itself}
use Rattle.std.proofs.lemmas.Option.{slice_get_within}
use Rattle.tl_syntax.specs.declared.action.Action.{Action}
use Rattle.tl_syntax.specs.Lists.{Among}
use Rattle.tl_terms.specs.Problem.{PlainProblem}
use Rattle.tl_terms.specs.Acceptance.{IsAccepted}
use Rattle.tl_terms.specs.Orders.{plan_cmp}
use Rattle.tl_terms.specs.Pairs.{Pair, pair_of, IsOpen, IsPairAccepted}
use Rattle.tl_terms.specs.Paths.{IsDistance}
use Rattle.tl_terms.proofs.OrderLaws.{plans-total}
use Rattle.tl_search.specs.Graphs.{walk, walk_from}
use Rattle.tl_breadth.specs.PathOrder.{IsUpto}
use Rattle.tl_breadth.specs.Searched.{IsKeptUpto}
use Rattle.tl_search.specs.PairGraph.{pair_graph}
use Rattle.tl_search.specs.Plans.{HasNoPlan, HasNoPlanWithin, HasNoPlanBelow, HasPairAt, HasNoPairFrom, IsFirstShortestPlan, IsNear}
use Rattle.tl_search.specs.Spent.{IsSpent, IsSpentBreadthFirst}
use Rattle.tl_search.specs.KeptPairs.{KeptPair, pairs_of}
use Rattle.tl_breadth.specs.BreadthFirst.{IsBreadthFirst, NoneAccepted}
use Rattle.tl_breadth.proofs.PathOrder.{upto-longer}
use Rattle.tl_search.proofs.ListLaws.{get-one}
use Rattle.tl_breadth.proofs.SearchReach.{IsAhead, reached, ahead-after, kept-first, nearer-kept, good-longer, good-nowhere, all-kept}
use Rattle.tl_search.proofs.PathLaws.{walk-pair, walk-open, walk-accepted, walk-distance}
use Rattle.tl_search.proofs.KeptLaws.{pair-kept, kept-pair, kept-among, length-pairs}
use Rattle.tl_breadth.proofs.BreadthSteps.{pairs-ordered}

-- a plan that is not after another one is no longer, and not after it among those of its length
not-after : (p : PlainProblem) (u w : List Action) → IsUpto (pair_graph p) u w → length w ≡ length u → plan_cmp w u ≢ Less
unfolding pair_graph
not-after p u w (inl e) same h = let q : Less ≡ Equal = sym h ∙ (ap (plan_cmp w) e ∙ tied_itself plans-total.total w) in cc
not-after p u w (inr (inl k)) same h = let b : ⊥ = omega arith in b
not-after p u w (inr (inr k)) same h = let q : Less ≡ Equal = sym (plans-total.total.trans w u w h k.1) ∙ tied_itself plans-total.total w in
    cc

-- where the root is pruned there is no open path
pub no-root-no-plan : (p : PlainProblem) → (pair_graph p).root ≡ None → HasNoPlan p
unfolding walk_from
no-root-no-plan p e plan h = let k = (walk-accepted p plan).0 h in let d : None ≡ Some k.0 =
    sym (ap (λ o. walk_from (pair_graph p) o plan) e) ∙ k.1 in let b : ⊥ = cc in b

pub no-root-no-pair : (p : PlainProblem) (n : ℕ) → (pair_graph p).root ≡ None → HasNoPairFrom p n
unfolding walk_from
no-root-no-pair p n e x m h = let k = (walk-open p h.path).0 h.open_path in let d : None ≡ Some k.0 =
    sym (ap (λ o. walk_from (pair_graph p) o h.path) e) ∙ k.1 in let b : ⊥ = cc in absurd b

module _ (p : PlainProblem) (n : ℕ) (kept : List KeptPair) (done : ℕ) (tried : List Action) (s : IsBreadthFirst p n kept done tried) where
  -- the distance of a kept pair is the length of its path
  pub kept-distance : (i : ℕ) (x : KeptPair) → slice_get kept i ≡ Some x → IsDistance p x.node (length x.path)
  kept-distance i x at = walk-distance p x.path x.node (s.are_kept.walks i x at)
      (λ other e. upto-longer (pair_graph p) (pairs-ordered p) x.path other
      (kept-first (pair_graph p) (pairs-ordered p) kept done tried s.are_kept s.searched i x other at e))

  pub kept-open : (i : ℕ) (x : KeptPair) → slice_get kept i ≡ Some x → IsOpen p x.path
  kept-open i x at = (walk-open p x.path).1 (x.node, s.are_kept.walks i x at)

  pub kept-pair-of : (i : ℕ) (x : KeptPair) → slice_get kept i ≡ Some x → pair_of p x.path ≡ Some x.node
  kept-pair-of i x at = ((walk-pair p x.path x.node).0 (s.are_kept.walks i x at)).0

  kept-near : (i : ℕ) (x : KeptPair) → slice_get kept i ≡ Some x → IsNear p n x.node
  kept-near i x at = record { path = x.path; open_path = kept-open i x at; its_pair = kept-pair-of i x at; short = s.near i x at }

  -- ---- where none but the last pair can be accepted

  module _ (b : ℕ) (last : KeptPair) (at : slice_get kept b ≡ Some last) (is_last : length kept ≡ b + 1)
      (none : NoneAccepted p kept b) where
    last-first : (plan : List Action) → IsAccepted p plan → IsUpto (pair_graph p) last.path plan
    last-first plan h = by_reach (reached (pair_graph p) (pairs-ordered p) kept done tried s.are_kept s.searched plan k.0 k.1)
      where
        k : (x : Pair) × (walk (pair_graph p) plan ≡ Some x) × IsPairAccepted p x
        k = (walk-accepted p plan).0 h

        by_reach : IsKeptUpto (pair_graph p) kept k.0 plan ⊎ IsAhead (pair_graph p) kept done tried plan →
            IsUpto (pair_graph p) last.path plan
        by_reach (inl m) = by_place (dec_lt m.0 b)
          where
            by_place : Dec (m.0 < b) → IsUpto (pair_graph p) last.path plan
            by_place (yes less) = absurd (none m.0 m.1 m.2 less (subst (IsPairAccepted p) (sym m.3) k.2))
            by_place (no more) =
                let q : m.0 < length kept = slice_get_within kept m.0 m.1 m.2 in
                let same : m.0 ≡ b = omega arith in
                subst (λ (y : KeptPair). IsUpto (pair_graph p) y.path plan)
                (get-one kept b m.1 last (subst (λ j. slice_get kept j ≡ Some m.1) same m.2) at) m.4
        by_reach (inr m) = inr (ahead-after (pair_graph p) (pairs-ordered p) kept done tried s.are_kept s.searched b last plan at m)

    -- no accepted plan is shorter than its path
    pub last-no-shorter : HasNoPlanBelow p (length last.path)
    last-no-shorter plan h = upto-longer (pair_graph p) (pairs-ordered p) last.path plan (last-first plan h)

    -- if it is accepted, its path is the plan
    pub last-is-plan : IsPairAccepted p last.node → IsFirstShortestPlan p n last.path
    last-is-plan h = record {
      within = record { short = s.near b last at; accepted = (walk-accepted p last.path).1 (last.node, s.are_kept.walks b last at, h) };
      least = last-no-shorter;
      first = λ other k same. not-after p last.path other (last-first other k) same;
    }

    -- if there are too many pairs now, the search is spent
    pub last-is-spent : IsSpent p n b (pairs_of kept)
    last-is-spent = record {
      many = length-pairs kept ∙ is_last;
      near = record {
        differ = λ i j x e f. (let y = pair-kept kept i x e in let z = pair-kept kept j x f in
            s.are_kept.differ i j y.0 z.0 y.1 z.1 (y.2 ∙ sym z.2));
        near = λ i x e. (let y = pair-kept kept i x e in subst (IsNear p n) y.2 (kept-near i y.0 y.1));
      };
      unaccepted = λ i x less e h. (let y = pair-kept kept i x e in none i y.0 y.1 less (subst (IsPairAccepted p) (sym y.2) h));
    }

    pub last-is-spent-breadth-first : IsSpentBreadthFirst p b (pairs_of kept)
    last-is-spent-breadth-first = record {
      last = last.node;
      is_last = kept-pair kept b last at;
      distance = length last.path;
      its_distance = kept-distance b last at;
      nearer = λ y m d less. is_among y m d less;
      no_shorter = last-no-shorter;
    }
      where
        is_among : (y : Pair) (m : ℕ) → IsDistance p y m → m < length last.path → Among y (pairs_of kept)
        is_among y m d less =
            let k = (walk-open p d.path).0 d.open_path in
            let e : Some k.0 ≡ Some y = sym ((walk-pair p d.path k.0).0 k.1).0 ∙ d.its_pair in
            let f : walk (pair_graph p) d.path ≡ Some y = k.1 ∙ e in
            let t = nearer-kept (pair_graph p) (pairs-ordered p) kept done tried s.are_kept s.searched b last d.path y at f
            (omega (arith, d.its_length)) in
            subst (λ x. Among x (pairs_of kept)) t.3 (kept-among kept t.0 t.1 t.2)

  -- ---- where no kept pair is accepted

  module _ (none : NoneAccepted p kept (length kept)) where
    no-kept : (i : ℕ) (x : KeptPair) → slice_get kept i ≡ Some x → IsPairAccepted p x.node → ⊥
    no-kept i x at = none i x at (slice_get_within kept i x at)

    -- each accepted plan is longer than the path of the pair whose turn it is
    pub turn-no-shorter : (x : KeptPair) → slice_get kept done ≡ Some x → HasNoPlanBelow p (length x.path + 1)
    turn-no-shorter x at plan h =
        let k = (walk-accepted p plan).0 h in
        let q : length x.path < length plan = good-longer (pair_graph p) (pairs-ordered p) kept done tried s.are_kept s.searched
        (IsPairAccepted p) no-kept x plan k.0 at k.1 k.2 in
        omega arith

    -- the pair whose turn it is has the greatest distance
    pub end-within : (x : KeptPair) → slice_get kept done ≡ Some x → n ≤ length x.path → HasNoPlanWithin p n × HasPairAt p n
    end-within x at far = (
      λ plan short h. (let q : length x.path + 1 ≤ length plan = turn-no-shorter x at plan h in let b : ⊥ = omega arith in b),
      (
        x.node,
        subst (IsDistance p x.node) (let q : length x.path ≤ n = s.near done x at in let e : length x.path ≡ n = omega arith in e)
            (kept-distance done x at),
      ),
    )

    -- no pair is left
    pub end-no-plan : length kept ≤ done → HasNoPlan p
    end-no-plan all plan h = let k = (walk-accepted p plan).0 h in good-nowhere (pair_graph p)
        (pairs-ordered p) kept done tried s.are_kept s.searched (IsPairAccepted p) no-kept plan k.0 all k.1 k.2

  pub end-no-pair : length kept ≤ done → HasNoPairFrom p n
  end-no-pair all x m d =
      let k = (walk-open p d.path).0 d.open_path in
      let e : Some k.0 ≡ Some x = sym ((walk-pair p d.path k.0).0 k.1).0 ∙ d.its_pair in
      let t = all-kept (pair_graph p) (pairs-ordered p) kept done tried s.are_kept s.searched d.path x all (k.1 ∙ e) in
      let q : t.0 < length kept = slice_get_within kept t.0 t.1 t.2 in
      let f : length t.1.path < n = s.expanded t.0 t.1 t.2 (omega arith) in
      let g : m ≤ length t.1.path = d.least t.1.path (kept-open t.0 t.1 t.2) (kept-pair-of t.0 t.1 t.2 ∙ ap Some t.3) in
      omega arith
