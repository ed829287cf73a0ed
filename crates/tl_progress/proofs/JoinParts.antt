-- The parts of a join by their positions, read from its node.
use Rattle.std.proofs.Common.{◌≡◌, ◌<◌, ℕ, zero, suc, List, [], ◌∷◌, map, length, nat_lt, true, true≢false, Some, slice_get, refl, sym, ap}
use Rattle.std.proofs.Common.{◌∙◌, subst, arith}
use borrow.Author.Tests.{ltb-true}
use Rattle.tl_nodes.specs.declared.node.Node.{Node}
use Rattle.tl_nodes.specs.declared.node.Node.TheVariants as node
use Rattle.tl_nodes.specs.Fits.{all_below, fits}
use Rattle.tl_nodes.specs.NodeTrees.{tree_at, trees_at, tree_of_node}
use Rattle.tl_syntax.specs.Basic.{is_basic}
use Rattle.tl_syntax.specs.TreeOfFormula.{tree_of_formula}
use Rattle.tl_syntax.specs.Trees.{FormulaTree, atom, defined, compare, goal_fact, goal_place, goal_not, formulas_of_list}
use Rattle.tl_syntax.proofs.Plain.{both}
use Rattle.tl_progress.specs.Parts.{formulas_in, join_parts}
use Rattle.tl_progress.proofs.TruthLayers.{shown}

in-list : (fs : List FormulaTree) → formulas_in (formulas_of_list fs) ≡ fs
in-list [] = refl
in-list (f ∷ fs) = ap (λ gs. f ∷ gs) (in-list fs)

basic-without-parts : (f : FormulaTree) → is_basic f ≡ true → join_parts f ≡ []
basic-without-parts (atom p ts) b = refl
basic-without-parts (defined p ts) b = refl
basic-without-parts (compare c x y) b = refl
basic-without-parts (goal_fact p xs) b = refl
basic-without-parts (goal_place f xs x) b = refl
basic-without-parts (goal_not p xs) b = refl
basic-without-parts f b = absurd (true≢false (sym b))

without-parts : (ts : List FormulaTree) (at : ℕ) (a : Node) → fits at a ≡ true → ((ids : List ℕ) → a ≡ node.And ids → ⊥) →
    ((ids : List ℕ) → a ≡ node.Or ids → ⊥) → join_parts (tree_of_node ts a) ≡ []
unfolding tree_of_node fits
without-parts ts at node.True w n o = refl
without-parts ts at node.False w n o = refl
without-parts ts at (node.Basic f) w n o = basic-without-parts (tree_of_formula f) w
without-parts ts at (node.Not i) w n o = refl
without-parts ts at (node.And ids) w n o = absurd (n ids refl)
without-parts ts at (node.Or ids) w n o = absurd (o ids refl)
without-parts ts at (node.Next i) w n o = refl
without-parts ts at (node.Always i) w n o = refl
without-parts ts at (node.Eventually i) w n o = refl
without-parts ts at (node.Until i j) w n o = refl
without-parts ts at (node.Within m i) w n o = refl
without-parts ts at (node.During m i) w n o = refl
without-parts ts at (node.ForAll vs b i) w n o = refl
without-parts ts at (node.Exists vs b i) w n o = refl

pub length-trees : (ts : List FormulaTree) (ids : List ℕ) → length (trees_at ts ids) ≡ length ids
length-trees ts [] = refl
length-trees ts (i ∷ ids) = ap (λ (n : ℕ). suc n) (length-trees ts ids)

pub position-in : (ts fs : List FormulaTree) (ids : List ℕ) (i : ℕ) → fs ≡ trees_at ts ids → i < length fs → i < length ids
position-in ts fs ids i e h = let same : length fs ≡ length ids = ap (λ (gs : List FormulaTree). length gs) e ∙ length-trees ts ids in
    omega (arith, same, h)

pub part-smaller : (at : ℕ) (ids : List ℕ) (i q : ℕ) → all_below at ids ≡ true → slice_get ids i ≡ Some q → q < at
part-smaller at [] i q b h = absurd (let z : ⊥ = cc in z)
part-smaller at (j ∷ ids) zero q b h = let same : j ≡ q = cc in subst (λ k. k < at) same
    (ltb-true j at (both (nat_lt j at) (all_below at ids) b).0)
part-smaller at (j ∷ ids) (suc i) q b h = part-smaller at ids i q (both (nat_lt j at) (all_below at ids) b).1 h

tree-there : (ts : List FormulaTree) (ids : List ℕ) (i q : ℕ) → slice_get ids i ≡ Some q → slice_get (trees_at ts ids) i ≡
    Some (tree_at ts q)
tree-there ts [] i q h = absurd (let z : ⊥ = cc in z)
tree-there ts (j ∷ ids) zero q h = let same : j ≡ q = cc in ap (λ k. Some (tree_at ts k)) same
tree-there ts (j ∷ ids) (suc i) q h = tree-there ts ids i q h

pub part-tree : (ts fs : List FormulaTree) (ids : List ℕ) (i q : ℕ) → fs ≡ trees_at ts ids → slice_get ids i ≡ Some q → slice_get fs i ≡
    Some (tree_at ts q)
part-tree ts fs ids i q e h = ap (λ (gs : List FormulaTree). slice_get gs i) e ∙ tree-there ts ids i q h

module _ (ts : List FormulaTree) (at : ℕ) (a : Node) (is : slice_get ts at ≡ Some (tree_of_node ts a)) where
  pub parts-And : (ids : List ℕ) → a ≡ node.And ids → join_parts (tree_at ts at) ≡ trees_at ts ids
  unfolding tree_of_node
  parts-And ids k = ap join_parts (shown ts at a is (node.And ids) k) ∙ in-list (map (tree_at ts) ids)

  pub parts-Or : (ids : List ℕ) → a ≡ node.Or ids → join_parts (tree_at ts at) ≡ trees_at ts ids
  unfolding tree_of_node
  parts-Or ids k = ap join_parts (shown ts at a is (node.Or ids) k) ∙ in-list (map (tree_at ts) ids)

  pub no-parts : fits at a ≡ true → ((ids : List ℕ) → a ≡ node.And ids → ⊥) → ((ids : List ℕ) → a ≡ node.Or ids → ⊥) →
      join_parts (tree_at ts at) ≡ []
  no-parts w n o = ap join_parts (shown ts at a is a refl) ∙ without-parts ts at a w n o
