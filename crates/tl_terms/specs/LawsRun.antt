-- Satisfaction on runs.
use Rattle.std.specs.Prelude.{ℕ}
use Rattle.tl_syntax.specs.Trees.{FormulaTree}
use Rattle.tl_terms.specs.Problem.{PlainProblem}
use Rattle.tl_terms.specs.Run.{Run, Satisfies}

-- on each run of a stem and a loop it is decided whether a formula holds at a position
abbrev pub SatisfactionIsDecided : Type 0
SatisfactionIsDecided = (p : PlainProblem) (r : Run) (i : ℕ) (f : FormulaTree) → Dec (Satisfies p r i f)
