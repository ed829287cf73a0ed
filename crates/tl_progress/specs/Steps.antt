-- Formulas that count states: `within` and `for`.
use Rattle.std.specs.Prelude.{ℕ, zero, suc, [], ◌∷◌}
use Rattle.tl_nodes.specs.declared.node.Node.{Node}
use Rattle.tl_nodes.specs.declared.node.Node.TheVariants as node
use Rattle.tl_nodes.specs.Joins.{simplified_join}
use Rattle.tl_syntax.specs.declared.junction.Junction.{Junction}
use Rattle.tl_syntax.specs.declared.junction.Junction.TheVariants.{All, Any}
use Rattle.tl_syntax.specs.Assignment.{Assignment}
use Rattle.tl_syntax.specs.Substitution.{substituted}
use Rattle.tl_syntax.specs.Trees.{FormulaTree, within, during}

-- the formula holds in all of the states, or in any
abbrev pub within_or_during : Junction → ℕ → FormulaTree → FormulaTree
within_or_during All n f = during n f
within_or_during Any n f = within n f

-- its node
abbrev pub step_node : Junction → ℕ → ℕ → Node
step_node All n i = node.During n i
step_node Any n i = node.Within n i

-- what has to hold next for it, where g has to hold next for the formula
abbrev pub steps_left : Junction → Assignment → ℕ → FormulaTree → FormulaTree → FormulaTree
steps_left junction e zero g f = g
steps_left junction e (suc n) g f = simplified_join junction (g ∷ substituted e (within_or_during junction n f) ∷ [])
