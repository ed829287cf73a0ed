-- What is kept of worlds for progression stays right.
use Rattle.std.proofs.Common.{◌≡◌, ◌<◌, ℕ, List, Bool, true, false, nat_eq, eqb-true, eq-eqb, true≢false, Some, None, slice_get, length}
use Rattle.std.proofs.Common.{refl, sym, ap, subst, ◌∙◌}
use Rattle.tl_syntax.specs.Assignment.{Assignment}
use Rattle.tl_syntax.specs.Trees.{FormulaTree}
use Rattle.tl_terms.specs.Problem.{PlainProblem}
use Rattle.tl_terms.specs.World.{World}
use Rattle.tl_nodes.specs.NodeTrees.{tree_at}
use Rattle.tl_progress.specs.declared.residuals.Residuals.{Residuals}
use Rattle.tl_progress.specs.Answers.{residual}
use Rattle.tl_progress.specs.Known.{AreResiduals}
use Rattle.tl_progress.specs.KeptResiduals.{found_in, StaysElsewhere}
use Rattle.tl_space.specs.Kept.{world_at}
use Rattle.tl_space.specs.Remembered.{AreFound}
use Rattle.tl_space.proofs.Growing.{stay-longer, world-stays, tree-stays}
use Rattle.tl_known.specs.NumberedLists.{Stay}

module _ (p : PlainProblem) where
  -- worlds and trees that stay
  pub found-stays : (ws vs : List World) (ts us : List FormulaTree) (r : Residuals) → Stay ws vs → Stay ts us → AreFound p ws ts r →
      AreFound p vs us r
  found-stays ws vs ts us r s t was n k i e =
      let h = was n k i e in
      let w : world_at vs n ≡ world_at ws n = world-stays ws vs n s h.0 in
      let f : tree_at us k ≡ tree_at ts k = tree-stays ts us k t h.1.0 in (
        stay-longer ws vs n s h.0,
        (
          stay-longer ts us k t h.1.0,
          λ a. t i (residual p (world_at ws n) a (tree_at ts k)) (h.1.1 a) ∙
              sym (λ j. Some (residual p (w j) a (f j))),
        ),
      )

  module _ (ws : List World) (ts : List FormulaTree) (n : ℕ) (w : World) (is : world_at ws n ≡ w) where
    -- in the words of progression
    pub found-here : (r : Residuals) → AreFound p ws ts r → AreResiduals p w ts (found_in r n)
    found-here r was k i e = let h = was n k i e in (h.1.0, λ a. h.1.1 a ∙ ap (λ (v : World). Some (residual p v a (tree_at ts k))) is)

    -- after progression in a world
    pub found-after : (us : List FormulaTree) (old new : Residuals) → n < length ws → Stay ts us → AreFound p ws ts old →
        AreResiduals p w us (found_in new n) → StaysElsewhere n old new → AreFound p ws us new
    found-after us old new inside t was here elsewhere m k i e = by (nat_eq m n) refl
      where
        by : (b : Bool) → nat_eq m n ≡ b → (m < length ws) × ((k < length us) ×
            ((a : Assignment) → slice_get us i ≡ Some (residual p (world_at ws m) a (tree_at us k))))
        by true q =
            let same : m ≡ n = eqb-true m n q in
            let h = here k i (ap (λ (x : ℕ). found_in new x k) (sym same) ∙ e) in (
              subst (λ (x : ℕ). x < length ws) (sym same) inside,
              (
                h.0,
                λ a. h.1 a ∙
                    ap (λ (v : World). Some (residual p v a (tree_at us k))) (sym is ∙ ap (world_at ws) (sym same)),
              ),
            )
        by false q =
            let other : m ≡ n → ⊥ = λ x. true≢false (sym (eq-eqb m n x) ∙ q) in
            found-stays ws ws ts us old (λ j x h. h) t was m k i (sym (elsewhere m k other) ∙ e)

-- nothing is kept
pub none-found : (p : PlainProblem) (ws : List World) (ts : List FormulaTree) (r : Residuals) → ((n k : ℕ) → found_in r n k ≡ None) →
    AreFound p ws ts r
none-found p ws ts r none n k i e = let z : None ≡ Some i = sym (none n k) ∙ e in absurd (let f : ⊥ = cc in f)
