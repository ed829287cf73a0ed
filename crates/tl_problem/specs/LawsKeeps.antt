-- Laws of what problem files say.
use Rattle.std.specs.Prelude.{◌≡◌, ℕ, List, [], length}
use Rattle.tl_sexpr.specs.Tree.{FormTrees}
use Rattle.tl_syntax.specs.declared.domain.Domain.{Domain}
use Rattle.tl_syntax.specs.Signature.{signature_of}
use Rattle.tl_rules.specs.Named.{HaveNames}
use Rattle.tl_problem.specs.Keeps.{SectionsKeep}
use Rattle.tl_problem.specs.ProblemFiles.{problem_file_breaks, problem_file_meant}

-- what the forms of a problem file say that break no rule keeps what a problem keeps
abbrev pub LawfulProblemKeeps : Type 0
LawfulProblemKeeps =
    (names : List (List ℕ)) (d : Domain) (forms : FormTrees)
    → problem_file_breaks names d forms ≡ [] → HaveNames names forms
    → SectionsKeep (signature_of d) (length names) (problem_file_meant names d forms)
