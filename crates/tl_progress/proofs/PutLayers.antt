-- A node with values put in, from its parts with values put in.
use Rattle.std.proofs.Common.{◌≡◌, ◌<◌, ◌+◌, ℕ, zero, suc, List, [], ◌∷◌, ◌++◌, map, take, get_or, true, true≢false, Some, slice_get}
use Rattle.std.proofs.Common.{nat_lt, length, refl, sym, ap, ap₂, ◌∙◌, subst, arith}
use Rattle.std.proofs.lemmas.List.{map-append, take_more}
use Rattle.std.proofs.lemmas.Option.{slice_get_within}
use borrow.Author.Tests.{ltb-true}
use Rattle.tl_nodes.specs.declared.node.Node.{Node}
use Rattle.tl_nodes.specs.declared.node.Node.TheVariants as node
use Rattle.tl_nodes.specs.Fits.{all_below, fits}
use Rattle.tl_nodes.specs.NodeTrees.{tree_at, trees_at, tree_of_node}
use Rattle.tl_nodes.specs.Numbering.{Keeps}
use Rattle.tl_nodes.proofs.TreesOfNodes.{at-is, at-there}
use Rattle.tl_syntax.specs.declared.bound.Bound.{Bound}
use Rattle.tl_syntax.specs.declared.formula.Formula.{Formula}
use Rattle.tl_syntax.specs.declared.variable.Var.{Var}
use Rattle.tl_syntax.specs.Assignment.{Assignment}
use Rattle.tl_syntax.specs.Basic.{is_basic}
use Rattle.tl_syntax.specs.Substitution.{without, substituted, substituted_all, substituted_bound}
use Rattle.tl_syntax.specs.TreeOfFormula.{tree_of_formula}
use Rattle.tl_syntax.specs.Trees.{FormulaTree, atom, defined, compare, goal_fact, goal_place, goal_not, negation, conjunction, disjunction}
use Rattle.tl_syntax.specs.Trees.{for_all, for_some, next, always, eventually, until, within, during, formulas_of_list, more_formulas}
use Rattle.tl_syntax.proofs.Plain.{both}
use Rattle.tl_progress.proofs.TruthLayers.{shown, basic-in}

-- an old number keeps its tree, and stays below the length
module _ (ts us : List FormulaTree) (kept : Keeps ts us) where
  pub stays : (i : ℕ) → i < length ts → tree_at us i ≡ tree_at ts i
  stays i h = at-is us i (tree_at ts i) (kept i (tree_at ts i) (at-there ts i h))

  pub longer : (i : ℕ) → i < length ts → i < length us
  longer i h = slice_get_within us i (tree_at ts i) (kept i (tree_at ts i) (at-there ts i h))

basic-substituted : (e : Assignment) (f : FormulaTree) → is_basic f ≡ true → is_basic (substituted e f) ≡ true
unfolding substituted
basic-substituted e (atom p ts) b = refl
basic-substituted e (defined p ts) b = refl
basic-substituted e (compare c x y) b = refl
basic-substituted e (goal_fact p xs) b = refl
basic-substituted e (goal_place f xs x) b = refl
basic-substituted e (goal_not p xs) b = refl
basic-substituted e f b = absurd (true≢false (sym b))

list-substituted : (e : Assignment) (fs : List FormulaTree) → substituted_all e (formulas_of_list fs) ≡
    formulas_of_list (map (substituted e) fs)
unfolding substituted
list-substituted e [] = refl
list-substituted e (f ∷ fs) = ap (more_formulas (substituted e f)) (list-substituted e fs)

module _ (ts : List FormulaTree) (at : ℕ) (a : Node) (w : fits at a ≡ true) where
  pub less-Not : (i : ℕ) → a ≡ node.Not i → i < at
  unfolding fits
  less-Not i e = ltb-true i at (subst (λ n. fits at n ≡ true) e w)

  pub less-Next : (i : ℕ) → a ≡ node.Next i → i < at
  unfolding fits
  less-Next i e = ltb-true i at (subst (λ n. fits at n ≡ true) e w)

  pub less-Always : (i : ℕ) → a ≡ node.Always i → i < at
  unfolding fits
  less-Always i e = ltb-true i at (subst (λ n. fits at n ≡ true) e w)

  pub less-Eventually : (i : ℕ) → a ≡ node.Eventually i → i < at
  unfolding fits
  less-Eventually i e = ltb-true i at (subst (λ n. fits at n ≡ true) e w)

  pub less-Within : (m i : ℕ) → a ≡ node.Within m i → i < at
  unfolding fits
  less-Within m i e = ltb-true i at (subst (λ n. fits at n ≡ true) e w)

  pub less-During : (m i : ℕ) → a ≡ node.During m i → i < at
  unfolding fits
  less-During m i e = ltb-true i at (subst (λ n. fits at n ≡ true) e w)

  pub less-Until : (i j : ℕ) → a ≡ node.Until i j → (i < at) × (j < at)
  unfolding fits
  less-Until i j e = let p = both (nat_lt i at) (nat_lt j at) (subst (λ n. fits at n ≡ true) e w) in (ltb-true i at p.0, ltb-true j at p.1)

  pub below-And : (ids : List ℕ) → a ≡ node.And ids → all_below at ids ≡ true
  unfolding fits
  below-And ids e = subst (λ n. fits at n ≡ true) e w

  pub below-Or : (ids : List ℕ) → a ≡ node.Or ids → all_below at ids ≡ true
  unfolding fits
  below-Or ids e = subst (λ n. fits at n ≡ true) e w

module _ (ts us : List FormulaTree) (at : ℕ) (a : Node) (is : slice_get ts at ≡ Some (tree_of_node ts a)) (e : Assignment) where
  pub put-True : a ≡ node.True → tree_of_node us node.True ≡ substituted e (tree_at ts at)
  unfolding tree_of_node substituted
  put-True k = sym (ap (substituted e) (shown ts at a is node.True k))

  pub put-False : a ≡ node.False → tree_of_node us node.False ≡ substituted e (tree_at ts at)
  unfolding tree_of_node substituted
  put-False k = sym (ap (substituted e) (shown ts at a is node.False k))

  pub put-Basic : (f g : Formula) → a ≡ node.Basic f → tree_of_formula g ≡ substituted e (tree_of_formula f) →
      tree_of_node us (node.Basic g) ≡ substituted e (tree_at ts at)
  unfolding tree_of_node substituted
  put-Basic f g k h = h ∙ sym (ap (substituted e) (shown ts at a is (node.Basic f) k))

  pub put-Not : (i j : ℕ) → a ≡ node.Not i → slice_get us j ≡ Some (substituted e (tree_at ts i)) → tree_of_node us (node.Not j) ≡
      substituted e (tree_at ts at)
  unfolding tree_of_node substituted
  put-Not i j k h = ap negation (at-is us j _ h) ∙ sym (ap (substituted e) (shown ts at a is (node.Not i) k))

  pub put-Next : (i j : ℕ) → a ≡ node.Next i → slice_get us j ≡ Some (substituted e (tree_at ts i)) → tree_of_node us (node.Next j) ≡
      substituted e (tree_at ts at)
  unfolding tree_of_node substituted
  put-Next i j k h = ap next (at-is us j _ h) ∙ sym (ap (substituted e) (shown ts at a is (node.Next i) k))

  pub put-Always : (i j : ℕ) → a ≡ node.Always i → slice_get us j ≡ Some (substituted e (tree_at ts i)) → tree_of_node us (node.Always j) ≡
      substituted e (tree_at ts at)
  unfolding tree_of_node substituted
  put-Always i j k h = ap always (at-is us j _ h) ∙ sym (ap (substituted e) (shown ts at a is (node.Always i) k))

  pub put-Eventually : (i j : ℕ) → a ≡ node.Eventually i → slice_get us j ≡ Some (substituted e (tree_at ts i)) →
      tree_of_node us (node.Eventually j) ≡ substituted e (tree_at ts at)
  unfolding tree_of_node substituted
  put-Eventually i j k h = ap eventually (at-is us j _ h) ∙ sym (ap (substituted e) (shown ts at a is (node.Eventually i) k))

  pub put-Within : (m i j : ℕ) → a ≡ node.Within m i → slice_get us j ≡ Some (substituted e (tree_at ts i)) →
      tree_of_node us (node.Within m j) ≡ substituted e (tree_at ts at)
  unfolding tree_of_node substituted
  put-Within m i j k h = ap (within m) (at-is us j _ h) ∙ sym (ap (substituted e) (shown ts at a is (node.Within m i) k))

  pub put-During : (m i j : ℕ) → a ≡ node.During m i → slice_get us j ≡ Some (substituted e (tree_at ts i)) →
      tree_of_node us (node.During m j) ≡ substituted e (tree_at ts at)
  unfolding tree_of_node substituted
  put-During m i j k h = ap (during m) (at-is us j _ h) ∙ sym (ap (substituted e) (shown ts at a is (node.During m i) k))

  pub put-Until : (i j l r : ℕ) → a ≡ node.Until i j → slice_get us l ≡ Some (substituted e (tree_at ts i)) → slice_get us r ≡
      Some (substituted e (tree_at ts j)) → tree_of_node us (node.Until l r) ≡ substituted e (tree_at ts at)
  unfolding tree_of_node substituted
  put-Until i j l r k h m = ap₂ until (at-is us l _ h) (at-is us r _ m) ∙ sym (ap (substituted e) (shown ts at a is (node.Until i j) k))

  pub put-And : (ids js : List ℕ) → a ≡ node.And ids → trees_at us js ≡ map (substituted e) (trees_at ts ids) →
      tree_of_node us (node.And js) ≡ substituted e (tree_at ts at)
  unfolding tree_of_node substituted
  put-And ids js k h = ap (λ fs. conjunction (formulas_of_list fs)) h ∙
      sym (ap (substituted e) (shown ts at a is (node.And ids) k) ∙ ap conjunction (list-substituted e (trees_at ts ids)))

  pub put-Or : (ids js : List ℕ) → a ≡ node.Or ids → trees_at us js ≡ map (substituted e) (trees_at ts ids) → tree_of_node us (node.Or js) ≡
      substituted e (tree_at ts at)
  unfolding tree_of_node substituted
  put-Or ids js k h = ap (λ fs. disjunction (formulas_of_list fs)) h ∙
      sym (ap (substituted e) (shown ts at a is (node.Or ids) k) ∙ ap disjunction (list-substituted e (trees_at ts ids)))

  pub put-ForAll : (ss us-vars : List Var) (b c : Bound) (i j : ℕ) (d : Assignment) → a ≡ node.ForAll ss b i → us-vars ≡ ss → d ≡
      without ss e → c ≡ substituted_bound d b → slice_get us j ≡ Some (substituted d (tree_at ts i)) →
      tree_of_node us (node.ForAll us-vars c j) ≡ substituted e (tree_at ts at)
  unfolding tree_of_node substituted
  put-ForAll ss us-vars b c i j d k vs q x h =
      ap (λ xs. for_all xs c (tree_at us j)) vs ∙ ap₂ (for_all ss) (x ∙ ap (λ v. substituted_bound v b) q)
      (at-is us j _ h ∙ ap (λ v. substituted v (tree_at ts i)) q) ∙ sym (ap (substituted e) (shown ts at a is (node.ForAll ss b i) k))

  pub put-Exists : (ss us-vars : List Var) (b c : Bound) (i j : ℕ) (d : Assignment) → a ≡ node.Exists ss b i → us-vars ≡ ss → d ≡
      without ss e → c ≡ substituted_bound d b → slice_get us j ≡ Some (substituted d (tree_at ts i)) →
      tree_of_node us (node.Exists us-vars c j) ≡ substituted e (tree_at ts at)
  unfolding tree_of_node substituted
  put-Exists ss us-vars b c i j d k vs q x h =
      ap (λ xs. for_some xs c (tree_at us j)) vs ∙ ap₂ (for_some ss) (x ∙ ap (λ v. substituted_bound v b) q)
      (at-is us j _ h ∙ ap (λ v. substituted v (tree_at ts i)) q) ∙ sym (ap (substituted e) (shown ts at a is (node.Exists ss b i) k))

pub fits-put : (ts us : List FormulaTree) (at : ℕ) (a : Node) (is : slice_get ts at ≡ Some (tree_of_node ts a)) (w : fits at a ≡ true)
    (e : Assignment) (f g : Formula) → a ≡ node.Basic f → tree_of_formula g ≡ substituted e (tree_of_formula f) →
    fits (length us) (node.Basic g) ≡ true
unfolding fits
fits-put ts us at a is w e f g k h = subst (λ t. is_basic t ≡ true) (sym h)
    (basic-substituted e (tree_of_formula f) (basic-in ts at a is w f k))

pub at-below : (n : ℕ) (ids : List ℕ) (i : ℕ) → all_below n ids ≡ true → i < length ids → get_or ids i 0 < n
at-below n [] i b h = absurd (omega arith)
at-below n (j ∷ ids) zero b h = ltb-true j n (both (nat_lt j n) (all_below n ids) b).0
at-below n (j ∷ ids) (suc i) b h = at-below n ids i (both (nat_lt j n) (all_below n ids) b).1 (omega arith)

-- one more
pub parts-more : (e : Assignment) (ts us vs : List FormulaTree) → Keeps ts us → (ids parts : List ℕ) (i id : ℕ) → i < length parts →
    get_or parts i 0 < length ts
    → trees_at vs ids ≡ map (substituted e) (trees_at ts (take i parts)) → slice_get vs id ≡
    Some (substituted e (tree_at us (get_or parts i 0))) → trees_at vs (ids ++ id ∷ []) ≡
    map (substituted e) (trees_at ts (take (i + 1) parts))
parts-more e ts us vs kept ids parts i id h below was there =
    map-append (tree_at vs) ids (id ∷ [])
    ∙ (ap₂ (λ (a b : List FormulaTree). a ++ b) was (ap (λ f. f ∷ []) (at-is vs id _ there ∙
    ap (substituted e) (stays ts us kept (get_or parts i 0) below)))
    ∙ (sym (map-append (substituted e) (trees_at ts (take i parts)) (tree_at ts (get_or parts i 0) ∷ []))
    ∙ ap (map (substituted e)) (sym (map-append (tree_at ts) (take i parts) (get_or parts i 0 ∷ [])) ∙
    ap (trees_at ts) (sym (take_more parts i 0 h)))))
