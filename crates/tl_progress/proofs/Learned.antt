-- One more truth or number that is known.
use Rattle.std.proofs.Common.{◌≡◌, ◌<◌, ℕ, List, [], Bool, cond, nat_eq, Option, Some, slice_get, length, sym, ap, ◌∙◌}
use Rattle.tl_nodes.specs.NodeTrees.{tree_at}
use Rattle.tl_nodes.specs.Numbering.{Keeps}
use Rattle.tl_syntax.specs.Assignment.{Assignment}
use Rattle.tl_syntax.specs.FreeVariables.{free_slots, InScope}
use Rattle.tl_syntax.specs.Trees.{FormulaTree}
use Rattle.tl_terms.specs.Definitions.{situation_of}
use Rattle.tl_terms.specs.Problem.{PlainProblem}
use Rattle.tl_terms.specs.World.{World}
use Rattle.tl_progress.specs.Answers.{idly_true, residual}
use Rattle.tl_progress.specs.Known.{AreTruths, AreResiduals}
use Rattle.tl_progress.proofs.Closed.{closed-idle, closed-progressed}
use Rattle.tl_progress.proofs.Found.{found-more}
use Rattle.tl_progress.proofs.PutLayers.{stays, longer}
use Rattle.tl_progress.proofs.ResidualLayers.{residuals-still}

module _ (p : PlainProblem) (w : World) (e : Assignment) (ts : List FormulaTree) (at : ℕ) (inside : at < length ts)
    (closed : InScope [] (free_slots (tree_at ts at))) where
  pub truths-more : (old new : ℕ → Option Bool) (b : Bool) → ((q : ℕ) → new q ≡ cond (nat_eq at q) (Some b) (old q)) → b ≡
      idly_true p w e (tree_at ts at) → AreTruths p w ts old → AreTruths p w ts new
  truths-more old new b put is was =
      found-more (λ k y. (k < length ts) × ((d : Assignment) → y ≡ idly_true p w d (tree_at ts k))) old new at b put
      (inside, λ d. is ∙ closed-idle (situation_of p w) e d (tree_at ts at) closed) was

  module _ (us : List FormulaTree) (kept : Keeps ts us) where
    pub residuals-more : (old new : ℕ → Option ℕ) (i : ℕ) → ((q : ℕ) → new q ≡ cond (nat_eq at q) (Some i) (old q)) → slice_get us i ≡
        Some (residual p w e (tree_at ts at)) → AreResiduals p w ts old → AreResiduals p w us new
    residuals-more old new i put is was =
        found-more (λ k y. (k < length us) × ((d : Assignment) → slice_get us y ≡ Some (residual p w d (tree_at us k)))) old new at i put (
          longer ts us kept at inside,
          λ d. is ∙ ap Some (closed-progressed (situation_of p w) e d (tree_at ts at) closed ∙
              ap (residual p w d) (sym (stays ts us kept at inside))),
        )
        (residuals-still p w ts us kept old was)
