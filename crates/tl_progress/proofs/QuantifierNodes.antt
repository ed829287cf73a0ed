-- The nodes of quantifiers.
use Rattle.std.proofs.Common.{◌≡◌, ℕ, List, true, true≢false, Some, slice_get, refl, sym, ap, ap₂, ◌∙◌}
use Rattle.tl_nodes.specs.declared.node.Node.{Node}
use Rattle.tl_nodes.specs.declared.node.Node.TheVariants as node
use Rattle.tl_nodes.specs.Fits.{fits}
use Rattle.tl_nodes.specs.NodeTrees.{tree_at, tree_of_node}
use Rattle.tl_nodes.proofs.TreesOfNodes.{at-is}
use Rattle.tl_syntax.specs.declared.bound.Bound.{Bound}
use Rattle.tl_syntax.specs.declared.junction.Junction.{Junction}
use Rattle.tl_syntax.specs.declared.junction.Junction.TheVariants.{All, Any}
use Rattle.tl_syntax.specs.declared.variable.Var.{Var}
use Rattle.tl_syntax.specs.Basic.{is_basic}
use Rattle.tl_syntax.specs.Junctions.{quantified}
use Rattle.tl_syntax.specs.Trees.{FormulaTree}
use Rattle.tl_progress.specs.declared.quantifier.Quantifier.{Quantifier}
use Rattle.tl_progress.specs.Quantifiers.{vars_in, bound_in, Stands}
use Rattle.tl_progress.proofs.TruthLayers.{shown-ForAll, shown-Exists}

-- no other node is a quantifier
none : (ts : List FormulaTree) (k : ℕ) (n : Node) → fits k n ≡ true → ((ss : List Var) (b : Bound) (i : ℕ) → n ≡ node.ForAll ss b i → ⊥) →
    ((ss : List Var) (b : Bound) (i : ℕ) → n ≡ node.Exists ss b i → ⊥)
    → (junction : Junction) (ss : List Var) (b : Bound) (f : FormulaTree) → tree_of_node ts n ≡ quantified junction ss b f → ⊥
unfolding fits tree_of_node
none ts k (node.ForAll vs c i) w x y junction ss b f e = x vs c i refl
none ts k (node.Exists vs c i) w x y junction ss b f e = y vs c i refl
none ts k (node.Basic g) w x y All ss b f e = true≢false (sym w ∙ ap is_basic e)
none ts k (node.Basic g) w x y Any ss b f e = true≢false (sym w ∙ ap is_basic e)
none ts k n w x y All ss b f e = let z : ⊥ = cc in z
none ts k n w x y Any ss b f e = let z : ⊥ = cc in z

module _ (ts : List FormulaTree) (at : ℕ) (a : Node) (is : slice_get ts at ≡ Some (tree_of_node ts a)) where
  pub vars-ForAll : (ss : List Var) (b : Bound) (i : ℕ) → a ≡ node.ForAll ss b i → vars_in (tree_at ts at) ≡ ss
  vars-ForAll ss b i e = ap vars_in (shown-ForAll ts at a is ss b i e)

  pub bound-ForAll : (ss : List Var) (b : Bound) (i : ℕ) → a ≡ node.ForAll ss b i → bound_in (tree_at ts at) ≡ b
  bound-ForAll ss b i e = ap bound_in (shown-ForAll ts at a is ss b i e)

  pub vars-Exists : (ss : List Var) (b : Bound) (i : ℕ) → a ≡ node.Exists ss b i → vars_in (tree_at ts at) ≡ ss
  vars-Exists ss b i e = ap vars_in (shown-Exists ts at a is ss b i e)

  pub bound-Exists : (ss : List Var) (b : Bound) (i : ℕ) → a ≡ node.Exists ss b i → bound_in (tree_at ts at) ≡ b
  bound-Exists ss b i e = ap bound_in (shown-Exists ts at a is ss b i e)

  pub stands-ForAll : (ss : List Var) (b : Bound) (i : ℕ) → a ≡ node.ForAll ss b i →
      Stands ts (record { junction = All; at = at; part = i })
  stands-ForAll ss b i e = shown-ForAll ts at a is ss b i e ∙ ap₂ (λ vs c. quantified All vs c (tree_at ts i)) (sym (vars-ForAll ss b i e))
      (sym (bound-ForAll ss b i e))

  pub stands-Exists : (ss : List Var) (b : Bound) (i : ℕ) → a ≡ node.Exists ss b i →
      Stands ts (record { junction = Any; at = at; part = i })
  stands-Exists ss b i e = shown-Exists ts at a is ss b i e ∙ ap₂ (λ vs c. quantified Any vs c (tree_at ts i)) (sym (vars-Exists ss b i e))
      (sym (bound-Exists ss b i e))

  pub no-quantifier : fits at a ≡ true → ((ss : List Var) (b : Bound) (i : ℕ) → a ≡ node.ForAll ss b i → ⊥) →
      ((ss : List Var) (b : Bound) (i : ℕ) → a ≡ node.Exists ss b i → ⊥) → (q : Quantifier) → q.at ≡ at → Stands ts q → ⊥
  no-quantifier w x y q k h =
      none ts at a w x y q.junction (vars_in (tree_at ts q.at)) (bound_in (tree_at ts q.at)) (tree_at ts q.part)
      (sym (at-is ts at (tree_of_node ts a) is) ∙ (ap (tree_at ts) (sym k) ∙ h))
