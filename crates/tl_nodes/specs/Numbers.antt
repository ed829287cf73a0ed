-- What a caller sees of the nodes: the tree of each number.
use Rattle.std.specs.Prelude.{◌≡◌, ℕ, List, map, slice_get, Some}
use Rattle.tl_syntax.specs.declared.substitution.Binding.{Binding}
use Rattle.tl_syntax.specs.Bindings.{assignment_of}
use Rattle.tl_syntax.specs.Substitution.{substituted}
use Rattle.tl_syntax.specs.Trees.{FormulaTree}
use Rattle.tl_nodes.specs.declared.nodes.Nodes.{Nodes}
use Rattle.tl_nodes.specs.NodeTrees.{tree_at, trees_at, trees_of_nodes}

-- the trees of the numbers 0, 1 and on
abbrev pub trees : Nodes → List FormulaTree
trees s = trees_of_nodes s.table.keys

-- the number is given, and denotes this tree
abbrev pub Denotes : Nodes → ℕ → FormulaTree → Type 0
Denotes s i t = slice_get (trees s) i ≡ Some t

-- the tree of a number
abbrev pub tree_in : Nodes → ℕ → FormulaTree
tree_in s i = tree_at (trees s) i

-- the trees of the numbers
abbrev pub trees_of_numbers : Nodes → List ℕ → List FormulaTree
trees_of_numbers s ids = trees_at (trees s) ids

-- the tree of a number with the values put in
abbrev pub filled_at : Nodes → List Binding → ℕ → FormulaTree
filled_at s bs i = substituted (assignment_of bs) (tree_at (trees s) i)

-- so it is for each of the numbers
abbrev pub all_filled_at : Nodes → List Binding → List ℕ → List FormulaTree
all_filled_at s bs ids = map (substituted (assignment_of bs)) (trees_at (trees s) ids)

-- where a number denotes the tree already, no tree is added
abbrev pub StaysIfKnown : Nodes → Nodes → FormulaTree → Type 0
StaysIfKnown old new t = (i : ℕ) → Denotes old i t → trees new ≡ trees old
