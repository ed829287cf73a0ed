-- The tree that each number denotes: a node over the trees of the nodes before it.
use Rattle.std.specs.Prelude.{ℕ, List, [], ◌∷◌, ◌++◌, map, fold, slice_index_or}
use Rattle.tl_syntax.specs.Trees.{FormulaTree, verum, falsum, negation, conjunction, disjunction, for_all, for_some, next, always}
use Rattle.tl_syntax.specs.Trees.{eventually, until, within, during, formulas_of_list}
use Rattle.tl_syntax.specs.TreeOfFormula.{tree_of_formula}
use Rattle.tl_nodes.specs.declared.node.Node.{Node}
use Rattle.tl_nodes.specs.declared.node.Node.TheVariants as node

-- the tree of a number that is below the length; it is named only under this condition
abbrev pub tree_at : List FormulaTree → ℕ → FormulaTree
tree_at ts i = slice_index_or ts i verum

-- the trees of the numbers
abbrev pub trees_at : List FormulaTree → List ℕ → List FormulaTree
trees_at ts ids = map (tree_at ts) ids

-- the tree of a node, whose parts are numbers of these trees
unfoldable pub tree_of_node : List FormulaTree → Node → FormulaTree
tree_of_node ts node.True = verum
tree_of_node ts node.False = falsum
tree_of_node ts (node.Basic f) = tree_of_formula f
tree_of_node ts (node.Not i) = negation (tree_at ts i)
tree_of_node ts (node.And ids) = conjunction (formulas_of_list (trees_at ts ids))
tree_of_node ts (node.Or ids) = disjunction (formulas_of_list (trees_at ts ids))
tree_of_node ts (node.Next i) = next (tree_at ts i)
tree_of_node ts (node.Always i) = always (tree_at ts i)
tree_of_node ts (node.Eventually i) = eventually (tree_at ts i)
tree_of_node ts (node.Until i j) = until (tree_at ts i) (tree_at ts j)
tree_of_node ts (node.Within n i) = within n (tree_at ts i)
tree_of_node ts (node.During n i) = during n (tree_at ts i)
tree_of_node ts (node.ForAll vs b i) = for_all vs b (tree_at ts i)
tree_of_node ts (node.Exists vs b i) = for_some vs b (tree_at ts i)

-- the trees of the nodes, in their order
unfoldable pub trees_of_nodes : List Node → List FormulaTree
trees_of_nodes ns = fold (λ ts n. ts ++ tree_of_node ts n ∷ []) [] ns
