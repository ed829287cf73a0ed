-- A part that decides a join by itself.
use Rattle.std.proofs.Common.{◌≡◌, ℕ, zero, suc, List, [], ◌∷◌, ◌++◌, map, Some, slice_get, sym, ap, ◌∙◌}
use Rattle.tl_nodes.specs.Joins.{simplified_join}
use Rattle.tl_nodes.specs.NodeTrees.{tree_at}
use Rattle.tl_nodes.proofs.TreesOfNodes.{at-is}
use Rattle.tl_syntax.specs.declared.junction.Junction.{Junction}
use Rattle.tl_syntax.specs.Assignment.{Assignment}
use Rattle.tl_syntax.specs.Junctions.{deciding_truth}
use Rattle.tl_syntax.specs.Trees.{FormulaTree}
use Rattle.tl_terms.specs.Problem.{PlainProblem}
use Rattle.tl_terms.specs.Progression.{constant}
use Rattle.tl_terms.specs.World.{World}
use Rattle.tl_progress.specs.Answers.{residual}
use Rattle.tl_progress.specs.Parts.{IsJoin, join_parts}
use Rattle.tl_progress.proofs.Gathering.{joined-decided}
use Rattle.tl_progress.proofs.ResidualLayers.{join-next}

-- the list around one of its items
split-at : (h : FormulaTree → FormulaTree) (fs : List FormulaTree) (i : ℕ) (f : FormulaTree) → slice_get fs i ≡ Some f →
    (xs : List FormulaTree) × (ys : List FormulaTree) × (map h fs ≡ xs ++ h f ∷ ys)
split-at h [] i f k = absurd (let z : ⊥ = cc in z)
split-at h (g ∷ fs) zero f k = let e : g ≡ f = cc in ([], map h fs, ap (λ x. h x ∷ map h fs) e)
split-at h (g ∷ fs) (suc i) f k = let r = split-at h fs i f k in (h g ∷ r.0, r.1, ap (λ l. h g ∷ l) r.2)

module _ (p : PlainProblem) (w : World) (e : Assignment) (junction : Junction) (f : FormulaTree) (join : IsJoin junction f) where
  part-decides : (i : ℕ) (g : FormulaTree) → slice_get (join_parts f) i ≡ Some g → residual p w e g ≡ constant (deciding_truth junction) →
      residual p w e f ≡ constant (deciding_truth junction)
  part-decides i g there k =
      let r = split-at (residual p w e) (join_parts f) i g there in
      sym (join-next p w e junction f join) ∙ (ap (simplified_join junction) r.2 ∙
      (ap (λ c. simplified_join junction (r.0 ++ c ∷ r.1)) k ∙ joined-decided junction r.0 r.1))

  -- the number of what has to hold next for that part is that of the whole
  pub early-number : (ts : List FormulaTree) (i n : ℕ) (g : FormulaTree) → slice_get (join_parts f) i ≡ Some g → slice_get ts n ≡
      Some (residual p w e g) → tree_at ts n ≡ constant (deciding_truth junction) → slice_get ts n ≡ Some (residual p w e f)
  early-number ts i n g there is k =
      let one : residual p w e g ≡ constant (deciding_truth junction) = sym (at-is ts n (residual p w e g) is) ∙ k in
      is ∙ ap (λ (h : FormulaTree). Some h) (one ∙ sym (part-decides i g there one))
