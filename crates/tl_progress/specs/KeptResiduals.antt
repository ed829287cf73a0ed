-- What is kept of worlds between calls of progression.
use Rattle.std.specs.Prelude.{◌≡◌, ℕ, false, cond, List, map, Option, None, Some, nat_eq}
use Rattle.tl_nodes.specs.Joins.{simplified_join}
use Rattle.tl_nodes.specs.NodeTrees.{tree_at, trees_at}
use Rattle.tl_progress.specs.declared.residuals.Incoming.{Incoming}
use Rattle.tl_progress.specs.declared.residuals.Residuals.{Residuals}
use Rattle.tl_progress.specs.Answers.{residual}
use Rattle.tl_progress.specs.Parts.{IsBelow}
use Rattle.tl_progress.specs.WorldsKept.{number_for}
use Rattle.tl_syntax.specs.declared.junction.Junction.{Junction}
use Rattle.tl_syntax.specs.Assignment.{Assignment}
use Rattle.tl_syntax.specs.Lists.{Each}
use Rattle.tl_syntax.specs.Trees.{FormulaTree}
use Rattle.tl_terms.specs.Problem.{PlainProblem}
use Rattle.tl_terms.specs.World.{World}

-- the number of what has to hold next that is kept for a world and a formula, by their numbers
unfoldable pub found_in : Residuals → ℕ → ℕ → Option ℕ
found_in r n k = number_for r.table (record { world = n; formula = k })

-- the number is kept for the formula in its world, and what is kept there for other formulas is as
-- before
abbrev pub KeepsNumber : Residuals → Residuals → Incoming → ℕ → Type 0
KeepsNumber old new incoming number = (k : ℕ) → found_in new incoming.world k ≡
    cond (nat_eq incoming.formula k) (Some number) (found_in old incoming.world k)

-- what is kept for the world is as before
abbrev pub StaysThere : ℕ → Residuals → Residuals → Type 0
StaysThere n old new = (k : ℕ) → found_in new n k ≡ found_in old n k

-- what is kept for all other worlds is as before
abbrev pub StaysElsewhere : ℕ → Residuals → Residuals → Type 0
StaysElsewhere n old new = (m k : ℕ) → (m ≡ n → ⊥) → found_in new m k ≡ found_in old m k

-- nothing is kept for the world
abbrev pub KeepsNothing : ℕ → Residuals → Type 0
KeepsNothing n r = (k : ℕ) → found_in r n k ≡ None

-- what is kept was kept before, and is as before
abbrev pub KeepsFewer : Residuals → Residuals → Type 0
KeepsFewer old new = (n k i : ℕ) → found_in new n k ≡ Some i → found_in old n k ≡ Some i

-- these are parts of the join, and what has to hold next for it is the join of that for them
pub record AreOpen (p : PlainProblem) (w : World) (e : Assignment) (ts : List FormulaTree) (at : ℕ) (junction : Junction)
    (open_parts : List ℕ) : Type 0 where
  pub below : Each (IsBelow false ts at) open_parts
  pub same : simplified_join junction (map (residual p w e) (trees_at ts open_parts)) ≡ residual p w e (tree_at ts at)
