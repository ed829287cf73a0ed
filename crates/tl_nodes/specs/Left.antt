-- What is left of the parts of a join.
use Rattle.std.specs.Prelude.{◌≡◌, ◌++◌, ℕ, List, [], true, cond, length, filter, not, nat_eq, Result, IfOk}
use Rattle.std.specs.List.{flat_map}
use Rattle.indexmap.specs.IndexSet.{insert_all, insert_key}
use Rattle.tl_syntax.specs.declared.junction.Junction.{Junction}
use Rattle.tl_syntax.specs.Trees.{FormulaTree}
use Rattle.tl_terms.specs.Simplification.{without_repeats}
use Rattle.tl_nodes.specs.declared.nodes.Nodes.{Nodes}
use Rattle.tl_nodes.specs.Fits.{all_below}
use Rattle.tl_nodes.specs.Joins.{junction_parts, dropped, simplified_join}
use Rattle.tl_nodes.specs.NodeTrees.{trees_at}
use Rattle.tl_nodes.specs.Numbers.{trees, Denotes}

-- the numbers without this one, each once
abbrev pub distinct_without : ℕ → List ℕ → List ℕ
distinct_without unit ids = insert_all nat_eq [] (filter (λ i. not (nat_eq i unit)) ids)

-- the numbers without the constant that is dropped, each once
abbrev pub left_of : Junction → List ℕ → List ℕ
left_of junction flat = distinct_without (dropped junction) flat

-- the numbers with this one at the end, unless it is the constant that is dropped or is there
abbrev pub kept_with : Junction → List ℕ → ℕ → List ℕ
kept_with junction ids i = cond (nat_eq i (dropped junction)) ids (insert_key nat_eq ids i)

-- the numbers are left of those that the parts open to
pub record IsOpened (ts : List FormulaTree) (junction : Junction) (parts ids : List ℕ) : Type 0 where
  pub flat : List ℕ
  pub below : all_below (length ts) flat ≡ true
  pub same : trees_at ts flat ≡ flat_map (junction_parts junction) (trees_at ts parts)
  pub left : ids ≡ left_of junction flat

-- the same, where the parts that come again may be missing before
pub record IsLeft (ts : List FormulaTree) (junction : Junction) (parts ids : List ℕ) : Type 0 where
  pub flat : List ℕ
  pub below : all_below (length ts) flat ≡ true
  pub same : without_repeats (trees_at ts flat) ≡ without_repeats (flat_map (junction_parts junction) (trees_at ts parts))
  pub left : ids ≡ left_of junction flat

-- of whatever parts the old numbers are left, the new ones are left of those and of these further
-- ones
abbrev pub GoesOnWith : Nodes → Junction → List ℕ → List ℕ → List ℕ → Type 0
GoesOnWith s junction more old new = (parts : List ℕ) → IsOpened (trees s) junction parts old →
    IsOpened (trees s) junction (parts ++ more) new

-- of whatever parts the numbers are left, a number that is given denotes the join of these
abbrev pub JoinsLeft : {E : Type 0} → Nodes → Nodes → Junction → List ℕ → Result ℕ E → Type 0
JoinsLeft old new junction ids result = (parts : List ℕ) → IsLeft (trees old) junction parts ids →
    IfOk result (λ i. Denotes new i (simplified_join junction (trees_at (trees old) parts)))

-- where a number denotes the join of such parts already, no tree is added
abbrev pub StaysIfJoined : Nodes → Nodes → Junction → List ℕ → Type 0
StaysIfJoined old new junction ids = (parts : List ℕ) (i : ℕ) → IsLeft (trees old) junction parts ids →
    Denotes old i (simplified_join junction (trees_at (trees old) parts)) → trees new ≡ trees old
