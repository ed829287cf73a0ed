-- The two constants, with which each table begins.
use Rattle.std.proofs.Common.{◌≡◌, zero, suc, true, false, true≢false, List, [], ◌∷◌, map, Some, slice_get, refl, sym, ap, subst}
use Rattle.tl_nodes.specs.declared.node.Node.{Node}
use Rattle.tl_nodes.specs.declared.node.Node.TheVariants as node
use Rattle.tl_syntax.specs.Trees.{FormulaTree, verum, falsum}
use Rattle.tl_nodes.specs.Fits.{fits, EachFits, begins_with_constants}
use Rattle.tl_nodes.specs.NodeTrees.{tree_of_node, trees_of_nodes}
use Rattle.tl_nodes.specs.Numbering.{OneToOne}
use Rattle.tl_nodes.specs.Temporal.{has_temporal}
use Rattle.tl_nodes.proofs.TreesOfNodes.{folded-left}

pub begun : (ns : List Node) → begins_with_constants ns ≡ true → (us : List FormulaTree) × (trees_of_nodes ns ≡ verum ∷ falsum ∷ us)
unfolding begins_with_constants trees_of_nodes tree_of_node
begun (node.True ∷ node.False ∷ ns) h = folded-left ns (verum ∷ falsum ∷ [])
begun ns h = absurd (true≢false (sym h))

pub truth : (ns : List Node) → begins_with_constants ns ≡ true → slice_get (trees_of_nodes ns) 0 ≡ Some verum
truth ns h = ap (λ ts. slice_get ts 0) (begun ns h).1

pub falsehood : (ns : List Node) → begins_with_constants ns ≡ true → slice_get (trees_of_nodes ns) 1 ≡ Some falsum
falsehood ns h = ap (λ ts. slice_get ts 1) (begun ns h).1

abbrev pub two : List Node
two = node.True ∷ node.False ∷ []

pub two-trees : trees_of_nodes two ≡ verum ∷ falsum ∷ []
unfolding trees_of_nodes tree_of_node
two-trees = refl

pub two-fit : EachFits two
unfolding fits
two-fit zero n h = let e : node.True ≡ n = cc in subst (λ x. fits 0 x ≡ true) e refl
two-fit (suc zero) n h = let e : node.False ≡ n = cc in subst (λ x. fits 1 x ≡ true) e refl
two-fit (suc (suc i)) n h = let f : ⊥ = cc in absurd f

pub two-constants : begins_with_constants two ≡ true
unfolding begins_with_constants
two-constants = refl

two-apart : OneToOne (verum ∷ falsum ∷ [])
two-apart zero zero t h k = refl
two-apart (suc zero) (suc zero) t h k = refl
two-apart zero (suc zero) t h k = let f : ⊥ = cc in absurd f
two-apart (suc zero) zero t h k = let f : ⊥ = cc in absurd f
two-apart (suc (suc i)) j t h k = let f : ⊥ = cc in absurd f
two-apart i (suc (suc j)) t h k = let f : ⊥ = cc in absurd f

pub two-one : OneToOne (trees_of_nodes two)
two-one = subst OneToOne (sym two-trees) two-apart

pub two-plain : map has_temporal (trees_of_nodes two) ≡ false ∷ false ∷ []
unfolding has_temporal
two-plain = ap (map has_temporal) two-trees
