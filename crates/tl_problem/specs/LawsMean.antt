-- Forms mean a problem exactly where they break no rule.
use Rattle.std.specs.Prelude.{◌≡◌, ℕ, List}
use Rattle.tl_sexpr.specs.Tree.{FormTrees}
use Rattle.tl_syntax.specs.declared.domain.Domain.{Domain}
use Rattle.tl_rules.specs.Unbroken.{where_unbroken}
use Rattle.tl_problem.specs.PartialProblems.{problem_meaning}
use Rattle.tl_problem.specs.ProblemFiles.{problem_file_breaks, problem_file_meant}

-- the forms of a problem file mean what they say exactly where they break no rule
abbrev pub ProblemsMean : Type 0
ProblemsMean =
    (names : List (List ℕ)) (d : Domain) (forms : FormTrees)
    → problem_meaning names d forms ≡ where_unbroken (problem_file_breaks names d forms) (problem_file_meant names d forms)
