-- Conjunction and disjunction under one name, for the code that makes both.
use Rattle.std.specs.Prelude.{ℕ, ◌+◌, List}
use Rattle.tl_syntax.specs.declared.junction.Junction.{Junction}
use Rattle.tl_syntax.specs.declared.junction.Junction.TheVariants.{All, Any}
use Rattle.tl_syntax.specs.Trees.{FormulaTree, FormulaTrees, conjunction, disjunction, no_formula, more_formulas}
use Rattle.tl_terms.specs.Simplification.{simplified_and, simplified_or, and_parts, or_parts}
use Rattle.tl_nodes.specs.declared.node.Node.{Node}
use Rattle.tl_nodes.specs.declared.node.Node.TheVariants as node

-- the parts of a tree, at any depth of conjunctions or of disjunctions
unfoldable pub junction_parts : Junction → FormulaTree → List FormulaTree
junction_parts All f = and_parts f
junction_parts Any f = or_parts f

-- the simplified join of the trees
unfoldable pub simplified_join : Junction → List FormulaTree → FormulaTree
simplified_join All fs = simplified_and fs
simplified_join Any fs = simplified_or fs

-- the number of the constant that is dropped
abbrev pub dropped : Junction → ℕ
dropped All = 0
dropped Any = 1

-- the number of the constant that decides
abbrev pub decides : Junction → ℕ
decides All = 1
decides Any = 0

-- the node of the join
abbrev pub join_node : Junction → List ℕ → Node
join_node All ids = node.And ids
join_node Any ids = node.Or ids

-- how many joins and other parts of joins there are, one below the other
unfoldable mutual
  pub breadth : FormulaTree → ℕ
  breadth (conjunction fs) = breadth_all fs + 1
  breadth (disjunction fs) = breadth_all fs + 1
  breadth f = 1

  pub breadth_all : FormulaTrees → ℕ
  breadth_all no_formula = 0
  breadth_all (more_formulas f fs) = breadth f + breadth_all fs
