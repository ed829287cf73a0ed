-- What problem files depend on.
use Rattle.std.specs.Prelude.{◌≡◌, ℕ, List}
use Rattle.tl_sexpr.specs.Tree.{FormTrees}
use Rattle.tl_syntax.specs.declared.domain.Domain.{Domain}
use Rattle.tl_problem.specs.ProblemFiles.{problem_file_breaks, problem_file_meant}

-- the two domains declare the same predicates and functions
pub record DeclareAlike (d e : Domain) : Type 0 where
  pub predicates : d.predicates ≡ e.predicates
  pub functions : d.functions ≡ e.functions

-- of a domain, what a problem file breaks and says goes by its predicates and functions alone
abbrev pub FilesGoByDeclarations : Type 0
FilesGoByDeclarations =
    (names : List (List ℕ)) (d e : Domain) (forms : FormTrees) → DeclareAlike d e
    → (problem_file_breaks names d forms ≡ problem_file_breaks names e forms)
    × (problem_file_meant names d forms ≡ problem_file_meant names e forms)
