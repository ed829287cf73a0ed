-- What was worked out for numbers, whatever values the variables have.
use Rattle.std.specs.Prelude.{◌≡◌, ◌<◌, ℕ, length, slice_get, List, Bool, Option, Some, nat_eq}
use Rattle.indexmap.specs.IndexMap.{get}
use Rattle.tl_nodes.specs.NodeTrees.{tree_at}
use Rattle.tl_progress.specs.declared.known.WorkedOut.{WorkedOut}
use Rattle.tl_progress.specs.Answers.{idly_true, residual}
use Rattle.tl_syntax.specs.Assignment.{Assignment}
use Rattle.tl_syntax.specs.Trees.{FormulaTree}
use Rattle.tl_terms.specs.Problem.{PlainProblem}
use Rattle.tl_terms.specs.World.{World}

-- the truths are those of the numbers' trees where the world is repeated for ever
abbrev pub AreTruths : PlainProblem → World → List FormulaTree → (ℕ → Option Bool) → Type 0
AreTruths p w ts found = (k : ℕ) (b : Bool) → found k ≡ Some b → (k < length ts) × ((e : Assignment) → b ≡ idly_true p w e (tree_at ts k))

-- the numbers are those of what has to hold next for the numbers' trees
abbrev pub AreResiduals : PlainProblem → World → List FormulaTree → (ℕ → Option ℕ) → Type 0
AreResiduals p w ts found = (k i : ℕ) → found k ≡ Some i → (k < length ts) ×
    ((e : Assignment) → slice_get ts i ≡ Some (residual p w e (tree_at ts k)))

-- what is known is right
pub record IsRightlyKnown (p : PlainProblem) (w : World) (ts : List FormulaTree) (known : WorkedOut) : Type 0 where
  pub truths : AreTruths p w ts (get nat_eq known.truths)
  pub residuals : AreResiduals p w ts (get nat_eq known.residuals)

-- so it is whatever the problem, the world and the trees
abbrev pub IsRightAnywhere : WorkedOut → Type 0
IsRightAnywhere known = (p : PlainProblem) (w : World) (ts : List FormulaTree) → IsRightlyKnown p w ts known
