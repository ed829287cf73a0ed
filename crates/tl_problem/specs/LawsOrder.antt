-- Laws of the breaks of problem files.
use Rattle.std.specs.Prelude.{◌≡◌, ℕ, List, Some}
use Rattle.tl_sexpr.specs.Offsets.{AreAsRead}
use Rattle.tl_sexpr.specs.Tree.{FormTrees}
use Rattle.tl_syntax.specs.declared.domain.Domain.{Domain}
use Rattle.tl_rules.specs.Rules.{Break, first_break, IsLeastBreak}
use Rattle.tl_problem.specs.ProblemFiles.{problem_file_breaks}

-- of the breaks of a problem file as it is read, the first in reading order has the least offset,
-- and there the least rule
abbrev pub FirstBreakIsLeast : Type 0
FirstBreakIsLeast =
    (names : List (List ℕ)) (d : Domain) (forms : FormTrees) (b : Break)
    → AreAsRead forms → first_break (problem_file_breaks names d forms) ≡ Some b
    → IsLeastBreak (problem_file_breaks names d forms) b
