-- How deep kept nodes are explored.
use Rattle.std.proofs.Common.{◌≡◌, ◌≤◌, ◌<◌, ℕ, zero, suc, Some, inl, inr, arith}
use Rattle.tl_syntax.specs.declared.action.Action.{Action}
use Rattle.tl_depth.specs.ActionGraphs.{ActionGraph}
use Rattle.tl_depth.specs.Search.{Memory, IsExplored}

module _ {Node : Type 0} (g : ActionGraph Node) where
  module _ (met : Memory Node) where
    -- a node that is explored to some depth is kept
    pub explored-kept : (l : ℕ) (y : Node) → IsExplored g met l y → (k : ℕ) × (met y ≡ Some k)
    unfolding IsExplored
    explored-kept zero y e = e
    explored-kept (suc l) y e = (e.0, e.1)

    -- one that is explored to more than 0 was met with some remaining action
    pub explored-some : (l : ℕ) (y : Node) → 0 < l → IsExplored g met l y → (k : ℕ) × (met y ≡ Some k) × (0 < k)
    unfolding IsExplored
    explored-some zero y p e = absurd (omega arith)
    explored-some (suc l) y p e = (e.0, e.1, elim e.2 [ inl h ↦ omega (arith, h) | inr h ↦ h.0 ])

    -- a node is explored as deep as it was met
    pub met-explored : (l : ℕ) (y : Node) (k : ℕ) → met y ≡ Some k → l ≤ k → IsExplored g met l y
    unfolding IsExplored
    met-explored zero y k e b = (k, e)
    met-explored (suc l) y k e b = (k, e, inl b)

    -- a node that was met with some remaining action is explored to one more than all its successors
    pub successors-explored : (l : ℕ) (y : Node) (k : ℕ) → met y ≡ Some k → 0 < k →
        ((a : Action) (z : Node) → g.next y a ≡ Some z → IsExplored g met l z) → IsExplored g met (suc l) y
    unfolding IsExplored
    successors-explored l y k e p h = (k, e, inr (p, h))

    -- where no node was met with no remaining action, each kept one was met with some
    pub some-left : ((x : Node) → met x ≡ Some 0 → ⊥) → (x : Node) (m : ℕ) → met x ≡ Some m → 0 < m
    some-left uncut x zero e = absurd (uncut x e)
    some-left uncut x (suc m) e = omega arith

  -- where a memory grows, nodes stay explored
  module _ (before after : Memory Node) (more : (y : Node) (k : ℕ) → before y ≡ Some k → (j : ℕ) × (after y ≡ Some j) × (k ≤ j)) where
    pub explored-on : (l : ℕ) (y : Node) → IsExplored g before l y → IsExplored g after l y
    unfolding IsExplored
    explored-on zero y e = let m = more y e.0 e.1 in (m.0, m.1)
    explored-on (suc l) y e =
        let m = more y e.0 e.1 in (
          m.0,
          m.1,
          elim e.2 [
            | inl h ↦ inl (omega (arith, h, m.2))
            | inr h ↦ inr
                (omega (arith, h.0, m.2), λ a z n. explored-on l z (h.1 a z n))
          ],
        )
