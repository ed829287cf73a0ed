-- The truth of formulas that are plain to read: nothing is looked at for them that can be past
-- range.
use Rattle.std.specs.Prelude.{◌≡◌, ℕ, List, Bool, Option, Ok}
use Rattle.tl_eval.specs.Frames.{assignment_in}
use Rattle.tl_eval.specs.TermValues.{IsAtomTruth, IsComparison}
use Rattle.tl_syntax.specs.declared.term.Term.{Term}
use Rattle.tl_syntax.specs.declared.term.Terms.{Terms}
use Rattle.tl_syntax.specs.declared.value.Cmp.{Cmp}
use Rattle.tl_syntax.specs.declared.value.Value.{Value}
use Rattle.tl_syntax.specs.TreeOfTerm.{tree_of_term, tree_of_terms}
use Rattle.tl_syntax.specs.Trees.{FormulaTree}
use Rattle.tl_terms.specs.Definitions.{situation_of}
use Rattle.tl_terms.specs.Problem.{PlainProblem}
use Rattle.tl_terms.specs.Truth.{state_true}
use Rattle.tl_terms.specs.World.{World}

-- it says in every world whether the two terms stand in the comparison
abbrev pub IsPlainComparison : List (Option Value) → Cmp → Term → Term → Bool → Type 0
IsPlainComparison frame cmp s t b = (w : World) → IsComparison w frame cmp (tree_of_term s) (tree_of_term t) (Ok b)

-- it says whether the fact of the terms is in the world
abbrev pub IsPlainAtom : World → List (Option Value) → ℕ → Terms → Bool → Type 0
IsPlainAtom w frame p ts b = IsAtomTruth w frame p (tree_of_terms ts) (Ok b)

-- it is the truth of the formula in the world under the frame, whatever the problem
abbrev pub IsPlainTruth : World → List (Option Value) → FormulaTree → Bool → Type 0
IsPlainTruth w frame f b = (p : PlainProblem) → b ≡ state_true (situation_of p w) (assignment_in frame) f
