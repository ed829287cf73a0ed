-- The problem that a file stands for.
use Rattle.std.specs.Prelude.{◌≡◌, ℕ, List}
use Rattle.tl_sexpr.specs.Tree.{FormTrees}
use Rattle.tl_syntax.specs.declared.domain.Domain.{Domain}
use Rattle.tl_syntax.specs.declared.problem.Problem.{Problem}
use Rattle.tl_problem.specs.ProblemFiles.{problem_file_meant}
use Rattle.tl_problem.specs.Sections.{Sections, sections_of}

-- the problem has these names and this domain, and says this
pub record Says (texts : List (List ℕ)) (d : Domain) (sections : Sections) (p : Problem) : Type 0 where
  pub names : p.names ≡ texts
  pub domain : p.domain ≡ d
  pub said : sections_of p ≡ sections

-- the problem of these names, the domain and the forms
abbrev pub IsProblemOf : List (List ℕ) → Domain → FormTrees → Problem → Type 0
IsProblemOf names d forms p = Says names d (problem_file_meant names d forms) p
