-- What follows at the end of the search.
use Rattle.std.specs.Prelude.{IsTrue}
use Rattle.std.proofs.Common.{◌≡◌, ◌≤◌, ◌<◌, ◌+◌, ℕ, List, [], ◌∷◌, length, Some, sym, ap, ◌∙◌, inl, inr, arith}
use native.Mathlib.Decide.{dec_lt}
use Rattle.tl_syntax.specs.declared.action.Action.{Action}
use Rattle.tl_depth.specs.ActionGraphs.{ActionGraph, IsLawful, walked, node_after, IsGoalWalk, IsWalkDistance}
use Rattle.tl_depth.specs.Search.{Memory, Reports, IsExplored, IsDone, IsDepthFirst}
use Rattle.tl_depth.proofs.Exploring.{explored-kept, explored-some, met-explored, some-left}
use Rattle.tl_depth.proofs.WalkLaws.{walk-nothing, walk-first, goes-by}
use Rattle.tl_depth.proofs.StackLaws.{reach}

module _ {Node : Type 0} (g : ActionGraph Node) (n : ℕ) (lawful : IsLawful g) (reported : Reports Node) (met : Memory Node) where
  -- ---- nothing is left to expand

  module _ (s : IsDepthFirst g n reported met []) where
    -- what a walk of at most n actions leads to is explored as deep as the walk leaves actions
    walks-explored : (path : List Action) (x : Node) → node_after g path ≡ Some x → length path ≤ n → (j : ℕ) × (n ≡ j + length path) ×
        IsExplored g met j x
    walks-explored path x e l = reach g n reported met lawful [] s.done path n g.root x
        (met-explored g met n g.root n s.begun (omega arith)) l e (λ front rest z p q o. o)

    -- so it is kept, and was met with some remaining action where the walk has fewer than n
    pub walks-kept : (path : List Action) (x : Node) → node_after g path ≡ Some x → length path ≤ n → (m : ℕ) × (met x ≡ Some m) ×
        (length path < n → 0 < m)
    walks-kept path x e l =
        let w = walks-explored path x e l in
        let k = explored-kept g met w.0 x w.2 in (
          k.0,
          k.1,
          λ p. (let o = explored-some g met w.0 x (omega (arith, w.1)) w.2 in let d : Some k.0 ≡ Some o.0 = sym k.1 ∙ o.1 in
              let i : k.0 ≡ o.0 = cc in omega (arith, i, o.2)),
        )

    -- no walk of at most n actions leads to an accepted node
    pub none-within : (path : List Action) → IsGoalWalk g n path → ⊥
    none-within path w = let k = walks-kept path w.last w.ends w.short in (s.kept w.last k.0 k.1).refused w.accepted

    -- what was met with no remaining action has a distance of n
    pub cut-distance : (x : Node) → met x ≡ Some 0 → IsWalkDistance g x n
    cut-distance x e =
        let k = s.kept x 0 e in
        record {
          path = k.path;
          ends = k.ends;
          long = omega (arith, k.budget);
          least = λ other f. elim (dec_lt (length other) n) [
            | no h ↦ omega arith
            | yes h ↦ absurd (let w = walks-kept other x f (omega arith) in let d : Some 0 ≡ Some w.0 = sym e ∙ w.1 in let i : 0 ≡ w.0 =
                cc in omega (arith, i, w.2 h))
          ];
        }

    -- and what has a distance of n was met with none
    pub distance-cut : (x : Node) → IsWalkDistance g x n → met x ≡ Some 0
    distance-cut x w =
        let k = walks-kept w.path x w.ends (omega (arith, w.long)) in
        let b = s.kept x k.0 k.1 in
        k.1 ∙ ap Some (omega (arith, b.budget, w.least b.path b.ends))

    module _ (uncut : (x : Node) → met x ≡ Some 0 → ⊥) where
      -- where no kept node was met with no remaining action, walks lead from kept node to kept node
      closed : (path : List Action) (x y : Node) (m : ℕ) → met x ≡ Some m → walked g (Some x) path ≡ Some y → (k : ℕ) × (met y ≡ Some k)
      closed [] x y m e w = (m, ap met (let q : Some y ≡ Some x = sym w ∙ walk-nothing g (Some x) in let p : y ≡ x = cc in p) ∙ e)
      closed (a ∷ path) x y m e w =
          let v = goes-by g x y a path (sym (walk-first g x a path) ∙ w) in
          let p = some-left g met uncut x m e in
          let c : IsDone g reported met x m = elim (s.done x m e p) [ inl o ↦ absurd o | inr c ↦ c ] in
          let k = explored-kept g met 0 v.0 ((c a (lawful.executes x v.0 a v.1)).0 v.0 v.1 0 p) in
          closed path v.0 y k.0 k.1 v.2

      -- no walk of any length leads to an accepted node
      pub none-at-all : (limit : ℕ) (path : List Action) → IsGoalWalk g limit path → ⊥
      none-at-all limit path w = let k = closed path g.root w.last n s.begun w.ends in (s.kept w.last k.0 k.1).refused w.accepted

      -- no node has a distance of n or more
      pub none-farther : (x : Node) (d : ℕ) → IsWalkDistance g x d → d < n
      none-farther x d w =
          let k = closed w.path g.root x n s.begun w.ends in
          let b = s.kept x k.0 k.1 in
          omega (arith, some-left g met uncut x k.0 k.1, b.budget, w.least b.path b.ends)

    -- each executable action of a node was reported, where the node's distance is below n
    pub all-reported : (x : Node) (d : ℕ) → IsWalkDistance g x d → d < n → (a : Action) → IsTrue (g.executable x a) → reported x a
    all-reported x d w l a t =
        let k = walks-kept w.path x w.ends (omega (arith, w.long)) in
        elim (s.done x k.0 k.1 (k.2 (omega (arith, w.long)))) [ inl o ↦ absurd o | inr c ↦ (c a t).1 ]
