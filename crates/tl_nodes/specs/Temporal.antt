-- Whether a tree has a temporal word, and whether a node has one by what is stored for its parts.
use Rattle.std.specs.Prelude.{ℕ, List, Bool, true, false, ◌||◌, slice_index_or}
use Rattle.std.specs.List.{list_any}
use Rattle.tl_syntax.specs.Trees.{FormulaTree, FormulaTrees, verum, falsum, atom, defined, compare, goal_fact, goal_place, goal_not}
use Rattle.tl_syntax.specs.Trees.{negation, conjunction, disjunction, for_all, for_some, next, always, eventually, until, within, during}
use Rattle.tl_syntax.specs.Trees.{no_formula, more_formulas}
use Rattle.tl_nodes.specs.declared.node.Node.{Node}
use Rattle.tl_nodes.specs.declared.node.Node.TheVariants as node

-- whether a temporal word stands in the formula, and in one of the formulas
unfoldable mutual
  pub has_temporal : FormulaTree → Bool
  has_temporal verum = false
  has_temporal falsum = false
  has_temporal (atom p ts) = false
  has_temporal (defined p ts) = false
  has_temporal (compare c x y) = false
  has_temporal (goal_fact p xs) = false
  has_temporal (goal_place f xs x) = false
  has_temporal (goal_not p xs) = false
  has_temporal (negation f) = has_temporal f
  has_temporal (conjunction fs) = any_temporal fs
  has_temporal (disjunction fs) = any_temporal fs
  has_temporal (for_all ss b f) = has_temporal f
  has_temporal (for_some ss b f) = has_temporal f
  has_temporal (next f) = true
  has_temporal (always f) = true
  has_temporal (eventually f) = true
  has_temporal (until f g) = true
  has_temporal (within n f) = true
  has_temporal (during n f) = true

  pub any_temporal : FormulaTrees → Bool
  any_temporal no_formula = false
  any_temporal (more_formulas f fs) = has_temporal f || any_temporal fs

-- what is stored for a number
abbrev pub flag_of : List Bool → ℕ → Bool
flag_of flags i = slice_index_or flags i false

-- the answer for a node by the answers for its parts
abbrev pub node_temporal : List Bool → Node → Bool
node_temporal flags node.True = false
node_temporal flags node.False = false
node_temporal flags (node.Basic f) = false
node_temporal flags (node.Not i) = flag_of flags i
node_temporal flags (node.And ids) = list_any (flag_of flags) ids
node_temporal flags (node.Or ids) = list_any (flag_of flags) ids
node_temporal flags (node.Next i) = true
node_temporal flags (node.Always i) = true
node_temporal flags (node.Eventually i) = true
node_temporal flags (node.Until i j) = true
node_temporal flags (node.Within n i) = true
node_temporal flags (node.During n i) = true
node_temporal flags (node.ForAll vs b i) = flag_of flags i
node_temporal flags (node.Exists vs b i) = flag_of flags i
