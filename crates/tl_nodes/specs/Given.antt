-- What calls give numbers to: the trees that are made of numbers' trees.
use Rattle.std.specs.Prelude.{◌≡◌, List, ℕ, map, Result, IfOk}
use Rattle.tl_nodes.specs.declared.node.Node.{Node}
use Rattle.tl_nodes.specs.declared.nodes.Nodes.{Nodes}
use Rattle.tl_nodes.specs.Joins.{simplified_join, join_node}
use Rattle.tl_nodes.specs.NodeTrees.{tree_of_node}
use Rattle.tl_nodes.specs.Numbers.{trees, Denotes, tree_in, trees_of_numbers}
use Rattle.tl_syntax.specs.declared.formula.Formulas.{Formulas}
use Rattle.tl_syntax.specs.declared.junction.Junction.{Junction}
use Rattle.tl_syntax.specs.TreeOfFormula.{formulas_in, tree_of_formula}
use Rattle.tl_syntax.specs.Trees.{FormulaTree}
use Rattle.tl_terms.specs.Simplification.{simplified_and, simplified_or, simplified_not}

-- a number that is answered denotes the tree
abbrev pub GivesNumber : {E : Type 0} → Nodes → FormulaTree → Result ℕ E → Type 0
GivesNumber s t result = IfOk result (λ i. Denotes s i t)

-- the tree of a node over the numbers' trees
abbrev pub node_over : Nodes → Node → FormulaTree
node_over s n = tree_of_node (trees s) n

-- the simplified negation of a number's tree
abbrev pub negation_of : Nodes → ℕ → FormulaTree
negation_of s i = simplified_not (tree_in s i)

-- the simplified conjunction of the numbers' trees
abbrev pub conjunction_of : Nodes → List ℕ → FormulaTree
conjunction_of s ids = simplified_and (trees_of_numbers s ids)

-- the simplified disjunction of them
abbrev pub disjunction_of : Nodes → List ℕ → FormulaTree
disjunction_of s ids = simplified_or (trees_of_numbers s ids)

-- the simplified join of them
abbrev pub join_of : Nodes → Junction → List ℕ → FormulaTree
join_of s junction ids = simplified_join junction (trees_of_numbers s ids)

-- their join as it stands
abbrev pub join_over : Nodes → Junction → List ℕ → FormulaTree
join_over s junction ids = tree_of_node (trees s) (join_node junction ids)

-- the numbers denote the formulas, one by one
abbrev pub DenoteFormulas : Nodes → Formulas → List ℕ → Type 0
DenoteFormulas s fs ids = trees_of_numbers s ids ≡ map tree_of_formula (formulas_in fs)
