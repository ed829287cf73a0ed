-- What the simplified negation of a number's tree is, by the number's node.
use Rattle.std.proofs.Common.{◌≡◌, ℕ, ◌<◌, true, true≢false, List, length, Some, slice_get, refl, sym, ap, ◌∙◌, subst, arith}
use Rattle.std.proofs.lemmas.Option.{slice_get_within}
use borrow.Author.Tests.{ltb-true}
use Rattle.tl_nodes.specs.declared.node.Node.{Node}
use Rattle.tl_nodes.specs.declared.node.Node.TheVariants as node
use Rattle.tl_syntax.specs.Basic.{is_basic}
use Rattle.tl_syntax.specs.TreeOfFormula.{tree_of_formula}
use Rattle.tl_syntax.specs.Trees.{FormulaTree, atom, defined, compare, goal_fact, goal_place, goal_not, verum, falsum, negation}
use Rattle.tl_terms.specs.Simplification.{simplified_not}
use Rattle.tl_nodes.specs.Fits.{fits}
use Rattle.tl_nodes.specs.NodeTrees.{tree_at, tree_of_node}
use Rattle.tl_nodes.proofs.TreesOfNodes.{at-is, at-there, inside-true}

module _ (ts : List FormulaTree) (i : ℕ) (n : Node) (is_it : slice_get ts i ≡ Some (tree_of_node ts n)) where
  pub not-true-node : n ≡ node.True → simplified_not (tree_at ts i) ≡ falsum
  unfolding tree_of_node simplified_not
  not-true-node e = ap simplified_not (at-is ts i (tree_of_node ts n) is_it ∙ ap (tree_of_node ts) e)

  pub not-false-node : n ≡ node.False → simplified_not (tree_at ts i) ≡ verum
  unfolding tree_of_node simplified_not
  not-false-node e = ap simplified_not (at-is ts i (tree_of_node ts n) is_it ∙ ap (tree_of_node ts) e)

  pub not-not-node : (j : ℕ) → n ≡ node.Not j → fits i n ≡ true → slice_get ts j ≡ Some (simplified_not (tree_at ts i))
  unfolding tree_of_node simplified_not fits
  not-not-node j e w =
      let inside : i < length ts = slice_get_within ts i (tree_of_node ts n) is_it in
      let below : j < i = ltb-true j i (subst (λ x. fits i x ≡ true) e w) in
      at-there ts j (omega arith) ∙ ap Some (sym (ap simplified_not (at-is ts i (tree_of_node ts n) is_it ∙ ap (tree_of_node ts) e)))

basic-not : (t : FormulaTree) → is_basic t ≡ true → simplified_not t ≡ negation t
unfolding simplified_not
basic-not (atom p ts) h = refl
basic-not (defined p ts) h = refl
basic-not (compare c x y) h = refl
basic-not (goal_fact p xs) h = refl
basic-not (goal_place f xs x) h = refl
basic-not (goal_not p xs) h = refl
basic-not t h = absurd (true≢false (sym h))

pub other-node : (ts : List FormulaTree) (k : ℕ) (n : Node) → fits k n ≡ true → (n ≡ node.True → ⊥) → (n ≡ node.False → ⊥) →
    ((j : ℕ) → n ≡ node.Not j → ⊥)
    → simplified_not (tree_of_node ts n) ≡ negation (tree_of_node ts n)
unfolding tree_of_node simplified_not fits
other-node ts k node.True w a b c = absurd (a refl)
other-node ts k node.False w a b c = absurd (b refl)
other-node ts k (node.Not j) w a b c = absurd (c j refl)
other-node ts k (node.Basic f) w a b c = basic-not (tree_of_formula f) w
other-node ts k n w a b c = refl

pub fits-not : (ts : List FormulaTree) (i : ℕ) → i < length ts → fits (length ts) (node.Not i) ≡ true
unfolding fits
fits-not ts i h = inside-true i (length ts) h

pub other-not : (ts : List FormulaTree) (i : ℕ) (n : Node) → slice_get ts i ≡ Some (tree_of_node ts n) → fits i n ≡ true
    → (n ≡ node.True → ⊥) → (n ≡ node.False → ⊥) → ((j : ℕ) → n ≡ node.Not j → ⊥) → tree_of_node ts (node.Not i) ≡
    simplified_not (tree_at ts i)
unfolding tree_of_node
other-not ts i n is_it w a b c =
    let e = at-is ts i (tree_of_node ts n) is_it in
    ap negation e ∙ (sym (other-node ts i n w a b c) ∙ ap simplified_not (sym e))
