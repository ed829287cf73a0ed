-- A node that is added at the end.
use Rattle.std.proofs.Common.{◌≡◌, ℕ, ◌<◌, true, false, true≢false, List, [], ◌∷◌, ◌++◌, inl, inr, length, Some, slice_get, refl, sym, ap}
use Rattle.std.proofs.Common.{◌∙◌, subst, arith}
use Rattle.std.specs.List.{list_any}
use Rattle.std.proofs.lemmas.Option.{slice_get_within}
use Rattle.tl_nodes.specs.declared.node.Node.{Node}
use Rattle.tl_nodes.specs.declared.node.Node.TheVariants as node
use Rattle.tl_syntax.specs.Trees.{FormulaTree}
use Rattle.tl_nodes.specs.Fits.{fits, EachFits, begins_with_constants}
use Rattle.tl_nodes.specs.NodeTrees.{tree_of_node, trees_of_nodes}
use Rattle.tl_nodes.specs.Numbering.{OneToOne}
use Rattle.tl_nodes.proofs.GrownLists.{get-split, any-at, get-there}
use Rattle.tl_nodes.proofs.NodeSame.{node_eq, told}
use Rattle.tl_nodes.proofs.TreesOfNodes.{trees-length, fits-more, layer}

-- what a node that is equal to none adds is a new tree
pub fresh : (ns : List Node) → EachFits ns → OneToOne (trees_of_nodes ns) → (n : Node) → fits (length (trees_of_nodes ns)) n ≡ true
    → list_any (node_eq n) ns ≡ false → (i : ℕ) → slice_get (trees_of_nodes ns) i ≡ Some (tree_of_node (trees_of_nodes ns) n) → ⊥
fresh ns all one n w none i h =
    let ts = trees_of_nodes ns in
    let len : length ts ≡ length ns = trees-length ns in
    let inside : i < length ts = slice_get_within ts i (tree_of_node ts n) h in
    let m = get-there ns i (omega arith) in
    let is_it = layer ns all i m.0 m.1 in
    let same : tree_of_node ts n ≡ tree_of_node ts m.0 = cc in
    let below : fits (length ts) m.0 ≡ true = fits-more i (length ts) (omega arith) m.0 (all i m.0 m.1) in
    true≢false (sym (any-at (node_eq n) ns i m.0 m.1 (told ts one n m.0 w below same)) ∙ none)

pub one-push : (ts : List FormulaTree) (t : FormulaTree) → OneToOne ts → ((i : ℕ) → slice_get ts i ≡ Some t → ⊥) → OneToOne (ts ++ t ∷ [])
one-push ts t one new i j u h k =
    elim (get-split ts t i u h) [
      | inl a ↦ elim (get-split ts t j u k) [ inl b ↦ one i j u a b | inr b ↦ absurd (new i (a ∙ ap Some (sym b.1))) ]
      | inr a ↦ elim (get-split ts t j u k) [ inl b ↦ absurd (new j (b ∙ ap Some (sym a.1))) | inr b ↦ a.0 ∙ sym b.0 ]
    ]

pub fits-push : (ns : List Node) (n : Node) → EachFits ns → fits (length ns) n ≡ true → EachFits (ns ++ n ∷ [])
fits-push ns n all w i m h =
    elim (get-split ns n i m h) [
      | inl a ↦ all i m a
      | inr a ↦ subst (λ x. fits x m ≡ true) (sym a.0) (subst (λ x. fits (length ns) x ≡ true) a.1 w)
    ]

pub constants-push : (ns : List Node) (n : Node) → begins_with_constants ns ≡ true → begins_with_constants (ns ++ n ∷ []) ≡ true
unfolding begins_with_constants
constants-push (node.True ∷ node.False ∷ ns) n h = refl
constants-push ns n h = absurd (true≢false (sym h))
