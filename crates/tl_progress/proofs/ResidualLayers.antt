-- What has to hold next for a node, from that for its parts.
use Rattle.std.proofs.Common.{◌≡◌, ◌<◌, ◌+◌, ℕ, zero, suc, List, [], ◌∷◌, map, drop, Bool, true, Option, Some, slice_get, length, refl, sym}
use Rattle.std.proofs.Common.{ap, ap₂, ◌∙◌, subst, arith}
use Rattle.tl_nodes.specs.declared.node.Node.{Node}
use Rattle.tl_nodes.specs.declared.node.Node.TheVariants as node
use Rattle.tl_nodes.specs.Fits.{fits}
use Rattle.tl_nodes.specs.Joins.{simplified_join}
use Rattle.tl_nodes.specs.NodeTrees.{tree_at, tree_of_node}
use Rattle.tl_nodes.specs.Numbering.{Keeps}
use Rattle.tl_nodes.proofs.TreesOfNodes.{at-is}
use Rattle.tl_syntax.specs.declared.junction.Junction.{Junction}
use Rattle.tl_syntax.specs.declared.junction.Junction.TheVariants.{All, Any}
use Rattle.tl_syntax.specs.Assignment.{Assignment}
use Rattle.tl_syntax.specs.StateFormulas.{IsState}
use Rattle.tl_syntax.specs.Substitution.{substituted}
use Rattle.tl_syntax.specs.Trees.{FormulaTree, conjunction, disjunction, until, within, during, formulas_of_list}
use Rattle.tl_terms.specs.Definitions.{situation_of}
use Rattle.tl_terms.specs.Problem.{PlainProblem}
use Rattle.tl_terms.specs.Progression.{constant, progressed, progressed_all}
use Rattle.tl_terms.specs.Simplification.{simplified_not}
use Rattle.tl_terms.specs.World.{World}
use Rattle.tl_progress.specs.Answers.{residual, idly_true}
use Rattle.tl_progress.specs.Known.{AreTruths, AreResiduals}
use Rattle.tl_progress.specs.Parts.{join_parts, formulas_in, IsJoin}
use Rattle.tl_progress.specs.Steps.{steps_left}
use Rattle.tl_progress.proofs.Basics.{basic-state}
use Rattle.tl_progress.proofs.Gathering.{joined-decided}
use Rattle.tl_progress.proofs.TruthLayers.{shown, shown-Basic, basic-in}
use Rattle.tl_progress.proofs.PutLayers.{stays, longer}

module _ (ts : List FormulaTree) (at : ℕ) (a : Node) (is : slice_get ts at ≡ Some (tree_of_node ts a)) where
  pub state-True : a ≡ node.True → IsState (tree_at ts at)
  unfolding tree_of_node
  state-True k = subst IsState (sym (shown ts at a is node.True k)) tt

  pub state-False : a ≡ node.False → IsState (tree_at ts at)
  unfolding tree_of_node
  state-False k = subst IsState (sym (shown ts at a is node.False k)) tt

  pub state-Basic : fits at a ≡ true → (f : _) → a ≡ node.Basic f → IsState (tree_at ts at)
  state-Basic h f k = subst IsState (sym (shown-Basic ts at a is f k)) (basic-state _ (basic-in ts at a is h f k))

  pub is-and : (ids : List ℕ) → a ≡ node.And ids → IsJoin All (tree_at ts at)
  unfolding tree_of_node
  is-and ids k = subst (IsJoin All) (sym (shown ts at a is (node.And ids) k))
      (ap (λ fs. conjunction (formulas_of_list fs)) (sym (back (map (tree_at ts) ids))))
    where
      back : (fs : List FormulaTree) → formulas_in (formulas_of_list fs) ≡ fs
      back [] = refl
      back (f ∷ fs) = ap (λ gs. f ∷ gs) (back fs)

  pub is-or : (ids : List ℕ) → a ≡ node.Or ids → IsJoin Any (tree_at ts at)
  unfolding tree_of_node
  is-or ids k = subst (IsJoin Any) (sym (shown ts at a is (node.Or ids) k))
      (ap (λ fs. disjunction (formulas_of_list fs)) (sym (back (map (tree_at ts) ids))))
    where
      back : (fs : List FormulaTree) → formulas_in (formulas_of_list fs) ≡ fs
      back [] = refl
      back (f ∷ fs) = ap (λ gs. f ∷ gs) (back fs)

-- formulas that count states
module _ (p : PlainProblem) (w : World) (e : Assignment) where
  within-next : (m : ℕ) (f : FormulaTree) → steps_left Any e m (residual p w e f) f ≡ residual p w e (within m f)
  unfolding progressed simplified_join
  within-next zero f = refl
  within-next (suc m) f = refl

  during-next : (m : ℕ) (f : FormulaTree) → steps_left All e m (residual p w e f) f ≡ residual p w e (during m f)
  unfolding progressed simplified_join
  during-next zero f = refl
  during-next (suc m) f = refl

-- answers for parts stand in later trees us, and the answer for the whole in vs
module _ (p : PlainProblem) (w : World) (e : Assignment) (ts : List FormulaTree) (at : ℕ) (a : Node)
    (is : slice_get ts at ≡ Some (tree_of_node ts a)) (inside : at < length ts) (us : List FormulaTree) (kept : Keeps ts us) where
  pub next-Next : (i : ℕ) → a ≡ node.Next i → substituted e (tree_at ts i) ≡ residual p w e (tree_at ts at)
  unfolding tree_of_node progressed
  next-Next i k = sym (ap (residual p w e) (shown ts at a is (node.Next i) k))

  pub next-Not : (i x : ℕ) → a ≡ node.Not i → slice_get us x ≡ Some (residual p w e (tree_at ts i)) → simplified_not (tree_at us x) ≡
      residual p w e (tree_at ts at)
  unfolding tree_of_node progressed
  next-Not i x k h = ap simplified_not (at-is us x _ h) ∙ sym (ap (residual p w e) (shown ts at a is (node.Not i) k))

  module _ (d : Assignment) (same : d ≡ e) where
    still : substituted d (tree_at us at) ≡ substituted e (tree_at ts at)
    still = ap₂ substituted same (stays ts us kept at inside)

    pub next-Always : (i x : ℕ) → a ≡ node.Always i → slice_get us x ≡ Some (residual p w e (tree_at ts i)) →
        simplified_join All (tree_at us x ∷ substituted d (tree_at us at) ∷ []) ≡ residual p w e (tree_at ts at)
    unfolding tree_of_node progressed simplified_join
    next-Always i x k h =
        let f = shown ts at a is (node.Always i) k in
        ap₂ (λ y z. simplified_join All (y ∷ z ∷ [])) (at-is us x _ h) (still ∙ ap (substituted e) f) ∙ sym (ap (residual p w e) f)

    pub next-Eventually : (i x : ℕ) → a ≡ node.Eventually i → slice_get us x ≡ Some (residual p w e (tree_at ts i)) →
        simplified_join Any (tree_at us x ∷ substituted d (tree_at us at) ∷ []) ≡ residual p w e (tree_at ts at)
    unfolding tree_of_node progressed simplified_join
    next-Eventually i x k h =
        let f = shown ts at a is (node.Eventually i) k in
        ap₂ (λ y z. simplified_join Any (y ∷ z ∷ [])) (at-is us x _ h) (still ∙ ap (substituted e) f) ∙ sym (ap (residual p w e) f)

    pub next-Until : (i j x y : ℕ) → a ≡ node.Until i j → slice_get us x ≡ Some (residual p w e (tree_at ts i)) → slice_get us y ≡
        Some (residual p w e (tree_at ts j))
        → simplified_join Any (tree_at us y ∷ simplified_join All (tree_at us x ∷ substituted d (tree_at us at) ∷ []) ∷ []) ≡
        residual p w e (tree_at ts at)
    unfolding tree_of_node progressed simplified_join
    next-Until i j x y k h l =
        let f = shown ts at a is (node.Until i j) k in
        ap₂ (λ u v. simplified_join Any (u ∷ v ∷ [])) (at-is us y _ l)
        (ap₂ (λ u v. simplified_join All (u ∷ v ∷ [])) (at-is us x _ h) (still ∙ ap (substituted e) f))
        ∙ sym (ap (residual p w e) f)

    pub next-Within : (m i x : ℕ) → i < length ts → a ≡ node.Within m i → slice_get us x ≡ Some (residual p w e (tree_at ts i)) →
        steps_left Any d m (tree_at us x) (tree_at us i) ≡ residual p w e (tree_at ts at)
    unfolding tree_of_node
    next-Within m i x part k h =
        ap₂ (steps_left Any d m) (at-is us x _ h) (stays ts us kept i part)
        ∙ (ap (λ (c : Assignment). steps_left Any c m (residual p w e (tree_at ts i)) (tree_at ts i)) same
        ∙ (within-next p w e m (tree_at ts i) ∙ sym (ap (residual p w e) (shown ts at a is (node.Within m i) k))))

    pub next-During : (m i x : ℕ) → i < length ts → a ≡ node.During m i → slice_get us x ≡ Some (residual p w e (tree_at ts i)) →
        steps_left All d m (tree_at us x) (tree_at us i) ≡ residual p w e (tree_at ts at)
    unfolding tree_of_node
    next-During m i x part k h =
        ap₂ (steps_left All d m) (at-is us x _ h) (stays ts us kept i part)
        ∙ (ap (λ (c : Assignment). steps_left All c m (residual p w e (tree_at ts i)) (tree_at ts i)) same
        ∙ (during-next p w e m (tree_at ts i) ∙ sym (ap (residual p w e) (shown ts at a is (node.During m i) k))))

  pub next-Until-now : (i j y : ℕ) → a ≡ node.Until i j → slice_get us y ≡ Some (residual p w e (tree_at ts j)) → tree_at us y ≡
      constant true → slice_get us y ≡ Some (residual p w e (tree_at ts at))
  unfolding tree_of_node progressed simplified_join
  next-Until-now i j y k h t =
      let f = shown ts at a is (node.Until i j) k in
      let second = sym (at-is us y _ h) ∙ t in
      let rest : List FormulaTree = simplified_join All (residual p w e (tree_at ts i) ∷
      substituted e (until (tree_at ts i) (tree_at ts j)) ∷ []) ∷ [] in
      h ∙ ap Some (second ∙ (sym (joined-decided Any [] rest) ∙ (ap (λ u. simplified_join Any (u ∷ rest)) (sym second) ∙
      sym (ap (residual p w e) f))))

-- what has to hold next for a join is the join of that for its parts
module _ (p : PlainProblem) (w : World) (e : Assignment) where
  all-next : (fs : List FormulaTree) → progressed_all (situation_of p w) e (formulas_of_list fs) ≡ map (residual p w e) fs
  unfolding progressed
  all-next [] = refl
  all-next (f ∷ fs) = ap (λ gs. residual p w e f ∷ gs) (all-next fs)

  pub join-next : (junction : Junction) (f : FormulaTree) → IsJoin junction f →
      simplified_join junction (map (residual p w e) (join_parts f)) ≡ residual p w e f
  unfolding simplified_join progressed
  join-next All f h = sym (ap (residual p w e) h ∙ ap (simplified_join All) (all-next (join_parts f)))
  join-next Any f h = sym (ap (residual p w e) h ∙ ap (simplified_join Any) (all-next (join_parts f)))

-- the parts from one on
pub part-next : (h : FormulaTree → FormulaTree) (fs : List FormulaTree) (i : ℕ) (f : FormulaTree) → slice_get fs i ≡ Some f →
    map h (drop i fs) ≡ h f ∷ map h (drop (i + 1) fs)
part-next h [] i f k = absurd (let z : ⊥ = cc in z)
part-next h (g ∷ fs) zero f k = let e : g ≡ f = cc in ap (λ x. h x ∷ map h fs) e
part-next h (g ∷ fs) (suc i) f k = subst (λ n. map h (drop i fs) ≡ h f ∷ map h (drop n (g ∷ fs)))
    (let z : suc (i + 1) ≡ suc i + 1 = omega arith in z) (part-next h fs i f k)

pub parts-done : (h : FormulaTree → FormulaTree) (fs : List FormulaTree) (i : ℕ) → length fs ≡ i → map h (drop i fs) ≡ []
parts-done h [] zero k = refl
parts-done h [] (suc i) k = refl
parts-done h (f ∷ fs) zero k = absurd (let z : ⊥ = omega arith in z)
parts-done h (f ∷ fs) (suc i) k = parts-done h fs i (omega arith)

-- what was found stays right while nodes are added
module _ (p : PlainProblem) (w : World) (ts us : List FormulaTree) (kept : Keeps ts us) where
  pub truths-still : (found : ℕ → Option Bool) → AreTruths p w ts found → AreTruths p w us found
  truths-still found h k b q = let r = h k b q in (
    longer ts us kept k r.0,
    λ e. r.1 e ∙
        ap (idly_true p w e) (sym (stays ts us kept k r.0)),
  )

  pub residuals-still : (found : ℕ → Option ℕ) → AreResiduals p w ts found → AreResiduals p w us found
  residuals-still found h k i q = let r = h k i q in (
    longer ts us kept k r.0,
    λ e. kept i _ (r.1 e) ∙
        ap (λ f. Some (residual p w e f)) (sym (stays ts us kept k r.0)),
  )
