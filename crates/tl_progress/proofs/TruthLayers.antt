-- The truth of a node where a world is repeated, from that of its parts.
use Rattle.std.proofs.Common.{◌≡◌, ◌<◌, ℕ, List, [], ◌∷◌, map, Bool, true, false, true≢false, not, ◌&&◌, ◌||◌, Some, slice_get, refl, sym}
use Rattle.std.proofs.Common.{ap, ◌∙◌, subst}
use Rattle.std.specs.List.{list_any, list_all}
use borrow.Author.Tests.{ltb-true}
use Rattle.tl_nodes.specs.declared.node.Node.{Node}
use Rattle.tl_nodes.specs.declared.node.Node.TheVariants as node
use Rattle.tl_nodes.specs.Fits.{fits}
use Rattle.tl_nodes.specs.Joins.{join_node}
use Rattle.tl_nodes.specs.NodeTrees.{tree_at, tree_of_node}
use Rattle.tl_nodes.proofs.TreesOfNodes.{at-is}
use Rattle.tl_syntax.specs.declared.bound.Bound.{Bound}
use Rattle.tl_syntax.specs.declared.formula.Formula.{Formula}
use Rattle.tl_syntax.specs.declared.junction.Junction.{Junction}
use Rattle.tl_syntax.specs.declared.junction.Junction.TheVariants.{All, Any}
use Rattle.tl_syntax.specs.declared.variable.Var.{Var}
use Rattle.tl_syntax.specs.Assignment.{Assignment}
use Rattle.tl_syntax.specs.Basic.{is_basic}
use Rattle.tl_syntax.specs.Junctions.{deciding_truth, quantified}
use Rattle.tl_syntax.specs.TreeOfFormula.{tree_of_formula}
use Rattle.tl_syntax.specs.Trees.{FormulaTree, formulas_of_list}
use Rattle.tl_terms.specs.Definitions.{situation_of}
use Rattle.tl_terms.specs.Idle.{idle_true, idle_all, idle_one}
use Rattle.tl_terms.specs.Looked.{looks_of, looked_in_state}
use Rattle.tl_terms.specs.Problem.{PlainProblem}
use Rattle.tl_terms.specs.Progression.{constant}
use Rattle.tl_terms.specs.Truth.{state_true}
use Rattle.tl_terms.specs.World.{World}
use Rattle.tl_progress.specs.Answers.{decided, looked_idly, idly_true}
use Rattle.tl_progress.proofs.Basics.{basic-idle, basic-looked}

module _ (ts : List FormulaTree) (at : ℕ) (a : Node) (is : slice_get ts at ≡ Some (tree_of_node ts a)) where
  pub shown : (n : Node) → a ≡ n → tree_at ts at ≡ tree_of_node ts n
  shown n e = at-is ts at (tree_of_node ts a) is ∙ ap (tree_of_node ts) e

  pub shown-Basic : (f : Formula) → a ≡ node.Basic f → tree_at ts at ≡ tree_of_formula f
  unfolding tree_of_node
  shown-Basic f e = shown (node.Basic f) e

  pub shown-ForAll : (ss : List Var) (b : Bound) (i : ℕ) → a ≡ node.ForAll ss b i → tree_at ts at ≡ quantified All ss b (tree_at ts i)
  unfolding tree_of_node
  shown-ForAll ss b i e = shown (node.ForAll ss b i) e

  pub shown-Exists : (ss : List Var) (b : Bound) (i : ℕ) → a ≡ node.Exists ss b i → tree_at ts at ≡ quantified Any ss b (tree_at ts i)
  unfolding tree_of_node
  shown-Exists ss b i e = shown (node.Exists ss b i) e

  module _ (w : fits at a ≡ true) where
    pub basic-in : (f : Formula) → a ≡ node.Basic f → is_basic (tree_of_formula f) ≡ true
    unfolding fits
    basic-in f e = subst (λ n. fits at n ≡ true) e w

    pub less-ForAll : (ss : List Var) (b : Bound) (i : ℕ) → a ≡ node.ForAll ss b i → i < at
    unfolding fits
    less-ForAll ss b i e = ltb-true i at (subst (λ n. fits at n ≡ true) e w)

    pub less-Exists : (ss : List Var) (b : Bound) (i : ℕ) → a ≡ node.Exists ss b i → i < at
    unfolding fits
    less-Exists ss b i e = ltb-true i at (subst (λ n. fits at n ≡ true) e w)

  pub shown-And : (ids : List ℕ) → a ≡ node.And ids → tree_at ts at ≡ tree_of_node ts (join_node All ids)
  shown-And ids e = shown (node.And ids) e

  pub shown-Or : (ids : List ℕ) → a ≡ node.Or ids → tree_at ts at ≡ tree_of_node ts (join_node Any ids)
  shown-Or ids e = shown (node.Or ids) e

  module _ (p : PlainProblem) (w : World) (e : Assignment) where
    pub idle-True : a ≡ node.True → true ≡ idly_true p w e (tree_at ts at)
    unfolding tree_of_node idle_true
    idle-True k = sym (ap (idly_true p w e) (shown node.True k))

    pub idle-False : a ≡ node.False → false ≡ idly_true p w e (tree_at ts at)
    unfolding tree_of_node idle_true
    idle-False k = sym (ap (idly_true p w e) (shown node.False k))

    pub idle-Basic : fits at a ≡ true → (f : Formula) → a ≡ node.Basic f → state_true (situation_of p w) e (tree_of_formula f) ≡
        idly_true p w e (tree_at ts at)
    idle-Basic h f k = sym (ap (idly_true p w e) (shown-Basic f k) ∙ basic-idle (situation_of p w) e (tree_of_formula f) (basic-in h f k))

    pub looked-Basic : fits at a ≡ true → (f : Formula) → a ≡ node.Basic f →
        looked_in_state (looks_of p w) (situation_of p w) e (tree_of_formula f) ≡ looked_idly p w e (tree_at ts at)
    looked-Basic h f k = basic-looked true (looks_of p w) (situation_of p w ∷ []) (situation_of p w) e (tree_of_formula f)
        (basic-in h f k) ∙ sym (ap (looked_idly p w e) (shown-Basic f k))

    pub idle-Not : (i : ℕ) (b : Bool) → a ≡ node.Not i → b ≡ idly_true p w e (tree_at ts i) → not b ≡ idly_true p w e (tree_at ts at)
    unfolding tree_of_node idle_true
    idle-Not i b k h = ap not h ∙ sym (ap (idly_true p w e) (shown (node.Not i) k))

    pub idle-Next : (i : ℕ) → a ≡ node.Next i → idly_true p w e (tree_at ts i) ≡ idly_true p w e (tree_at ts at)
    unfolding tree_of_node idle_true
    idle-Next i k = sym (ap (idly_true p w e) (shown (node.Next i) k))

    pub idle-Always : (i : ℕ) → a ≡ node.Always i → idly_true p w e (tree_at ts i) ≡ idly_true p w e (tree_at ts at)
    unfolding tree_of_node idle_true
    idle-Always i k = sym (ap (idly_true p w e) (shown (node.Always i) k))

    pub idle-Eventually : (i : ℕ) → a ≡ node.Eventually i → idly_true p w e (tree_at ts i) ≡ idly_true p w e (tree_at ts at)
    unfolding tree_of_node idle_true
    idle-Eventually i k = sym (ap (idly_true p w e) (shown (node.Eventually i) k))

    pub idle-Until : (i j : ℕ) → a ≡ node.Until i j → idly_true p w e (tree_at ts j) ≡ idly_true p w e (tree_at ts at)
    unfolding tree_of_node idle_true
    idle-Until i j k = sym (ap (idly_true p w e) (shown (node.Until i j) k))

    pub idle-Within : (m i : ℕ) → a ≡ node.Within m i → idly_true p w e (tree_at ts i) ≡ idly_true p w e (tree_at ts at)
    unfolding tree_of_node idle_true
    idle-Within m i k = sym (ap (idly_true p w e) (shown (node.Within m i) k))

    pub idle-During : (m i : ℕ) → a ≡ node.During m i → idly_true p w e (tree_at ts i) ≡ idly_true p w e (tree_at ts at)
    unfolding tree_of_node idle_true
    idle-During m i k = sym (ap (idly_true p w e) (shown (node.During m i) k))

-- ---- joins

module _ (ts : List FormulaTree) (p : PlainProblem) (w : World) (e : Assignment) where
  all-idle : (ids : List ℕ) → idle_all (situation_of p w) e (formulas_of_list (map (tree_at ts) ids)) ≡
      list_all (λ k. idly_true p w e (tree_at ts k)) ids
  unfolding idle_true
  all-idle [] = refl
  all-idle (i ∷ ids) = ap (λ b. idly_true p w e (tree_at ts i) && b) (all-idle ids)

  one-idle : (ids : List ℕ) → idle_one (situation_of p w) e (formulas_of_list (map (tree_at ts) ids)) ≡
      list_any (λ k. idly_true p w e (tree_at ts k)) ids
  unfolding idle_true
  one-idle [] = refl
  one-idle (i ∷ ids) = ap (λ b. idly_true p w e (tree_at ts i) || b) (one-idle ids)

  -- the truth of a join is decided by that of its parts
  pub idle-join : (junction : Junction) (stop : Bool) → stop ≡ deciding_truth junction → (ids : List ℕ) →
      decided stop (λ k. idly_true p w e (tree_at ts k)) ids ≡ idly_true p w e (tree_of_node ts (join_node junction ids))
  unfolding tree_of_node idle_true
  idle-join Any stop h ids = ap (λ b. decided b (λ k. idly_true p w e (tree_at ts k)) ids) h ∙ sym (one-idle ids)
  idle-join All stop h ids = ap (λ b. decided b (λ k. idly_true p w e (tree_at ts k)) ids) h ∙ sym (all-idle ids)

-- ---- constants

module _ (ts : List FormulaTree) (at : ℕ) (a : Node) (is : slice_get ts at ≡ Some (tree_of_node ts a)) where
  pub constant-True : a ≡ node.True → (t : Bool) → t ≡ true → tree_at ts at ≡ constant t
  unfolding tree_of_node
  constant-True k t h = shown ts at a is node.True k ∙ sym (ap constant h)

  pub constant-False : a ≡ node.False → (t : Bool) → not t ≡ true → tree_at ts at ≡ constant t
  unfolding tree_of_node
  constant-False k true h = absurd (true≢false (sym h))
  constant-False k false h = shown ts at a is node.False k
