-- The parts of a node that are worked through before it, and what is below a number.
use Rattle.std.specs.Prelude.{◌≤◌, ◌⊎◌, ℕ, List, [], ◌∷◌, ◌++◌, Bool, cond, ◌≡◌, slice_get, Some}
use Rattle.tl_nodes.specs.declared.node.Node.{Node}
use Rattle.tl_nodes.specs.declared.node.Node.TheVariants as node
use Rattle.tl_nodes.specs.declared.nodes.Nodes.{Nodes}
use Rattle.tl_nodes.specs.Joins.{simplified_join}
use Rattle.tl_nodes.specs.NodeTrees.{tree_at, trees_at}
use Rattle.tl_nodes.specs.Numbers.{trees}
use Rattle.tl_syntax.specs.declared.junction.Junction.{Junction}
use Rattle.tl_syntax.specs.Assignment.{Assignment}
use Rattle.tl_syntax.specs.Fits.{Fits}
use Rattle.tl_syntax.specs.FreeVariables.{free_slots, InScope}
use Rattle.tl_syntax.specs.Junctions.{joined}
use Rattle.tl_syntax.specs.Lists.{Among}
use Rattle.tl_syntax.specs.Signature.{Signature}
use Rattle.tl_syntax.specs.Trees.{FormulaTree, FormulaTrees, conjunction, disjunction, no_formula, more_formulas, formulas_of_list}
use Rattle.tl_terms.specs.Looked.{LookedTable, looked_in_basics}
use Rattle.tl_terms.specs.Operations.{Operation}
use Rattle.tl_terms.specs.Situation.{Situation}

-- all that came to these numbers is among others
abbrev pub AddsOnly : List ℕ → List ℕ → List ℕ → Type 0
AddsOnly old new ids = (q : ℕ) → Among q new → Among q old ⊎ Among q ids

-- the parts that are worked through before the node: true is for the idling check, which reads
-- below a `next` and of an `until` the second part alone
abbrev pub parts : Bool → Node → List ℕ
parts n node.True = []
parts n node.False = []
parts n (node.Basic f) = []
parts n (node.Not i) = i ∷ []
parts n (node.And ids) = ids
parts n (node.Or ids) = ids
parts n (node.Next i) = cond n (i ∷ []) []
parts n (node.Always i) = i ∷ []
parts n (node.Eventually i) = i ∷ []
parts n (node.Until i j) = cond n (j ∷ []) (i ∷ j ∷ [])
parts n (node.Within k i) = i ∷ []
parts n (node.During k i) = i ∷ []
parts n (node.ForAll vs b i) = []
parts n (node.Exists vs b i) = []

-- the number is this one or below it, outside of quantifiers: it fits where this one does, its free
-- variables are among those of this one, and all that is looked at in it is looked at in this one
pub record IsBelow (n : Bool) (ts : List FormulaTree) (id at : ℕ) : Type 0 where
  pub under : at ≤ id
  pub fits : (g : Signature) (around : List ℕ) → Fits g around (tree_at ts id) → Fits g around (tree_at ts at)
  pub scope : (slots : List ℕ) → InScope slots (free_slots (tree_at ts id)) → InScope slots (free_slots (tree_at ts at))
  pub looked : (d : LookedTable) (bs : List Situation) (s : Situation) (e : Assignment) (o : Operation) →
      Among o (looked_in_basics n d bs s e (tree_at ts at)) → Among o (looked_in_basics n d bs s e (tree_at ts id))

-- the formulas of a list
abbrev pub formulas_in : FormulaTrees → List FormulaTree
formulas_in no_formula = []
formulas_in (more_formulas f fs) = f ∷ formulas_in fs

-- the parts of a conjunction or a disjunction
abbrev pub join_parts : FormulaTree → List FormulaTree
join_parts (conjunction fs) = formulas_in fs
join_parts (disjunction fs) = formulas_in fs
join_parts f = []

-- the number denotes part i of a number's tree
abbrev pub IsPartAt : Nodes → ℕ → ℕ → ℕ → Type 0
IsPartAt nodes at i part = slice_get (join_parts (tree_at (trees nodes) at)) i ≡ Some (tree_at (trees nodes) part)

-- the formula is the conjunction or the disjunction of its parts
abbrev pub IsJoin : Junction → FormulaTree → Type 0
IsJoin junction f = f ≡ joined junction (formulas_of_list (join_parts f))

-- the part is gathered: whatever parts follow, the join of the new ones is that of the old ones and
-- the part
abbrev pub GathersPart : Nodes → Junction → List ℕ → ℕ → List ℕ → Type 0
GathersPart nodes junction old part new = (rest : List FormulaTree) → simplified_join junction (trees_at (trees nodes) new ++ rest) ≡
    simplified_join junction (trees_at (trees nodes) old ++ tree_at (trees nodes) part ∷ rest)
