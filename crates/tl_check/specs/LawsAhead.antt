-- Truth ahead, by which positions are labelled, is satisfaction.
use Rattle.std.specs.Prelude.{◌↔◌, IsTrue}
use Rattle.tl_check.specs.Ahead.{true_ahead}
use Rattle.tl_check.specs.Rounds.{course_of, worlds_of}
use Rattle.tl_syntax.specs.Assignment.{no_values}
use Rattle.tl_syntax.specs.Trees.{FormulaTree}
use Rattle.tl_terms.specs.Problem.{PlainProblem}
use Rattle.tl_terms.specs.Run.{Run, Satisfies}

-- a formula holds at the start of a run exactly where it is true ahead of its worlds; that of a
-- plan that ends repeats the last of them
abbrev pub TruthAheadIsSatisfaction : Type 0
TruthAheadIsSatisfaction = (p : PlainProblem) (r : Run) (f : FormulaTree) → Satisfies p r 0 f ↔
    IsTrue (true_ahead (course_of p r) no_values f (worlds_of r))
