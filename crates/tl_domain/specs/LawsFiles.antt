-- A domain file and a problem file stand for one problem.
use Rattle.std.specs.Prelude.{◌≡◌}
use Rattle.tl_sexpr.specs.Tree.{FormTrees}
use Rattle.tl_syntax.specs.declared.problem.Problem.{Problem}
use Rattle.tl_problem.specs.Sections.{sections_of}
use Rattle.tl_domain.specs.DomainTrees.{domain_tree}
use Rattle.tl_domain.specs.Files.{AreFilesOf, AreNamesOf, names_of}

-- two problems have the same names and the same domain, and say the same
pub record SameParts (p q : Problem) : Type 0 where
  pub names : p.names ≡ q.names
  pub domain : domain_tree p.domain ≡ domain_tree q.domain
  pub said : sections_of p ≡ sections_of q

-- two problems that the same files stand for are the same in all their parts
abbrev pub FilesStandForOneProblem : Type 0
FilesStandForOneProblem =
    (first second : FormTrees) (p q : Problem)
    → AreFilesOf first second p → AreFilesOf first second q → SameParts p q

-- the names of two files are the texts of their symbols, each once, in the order of their bytes
abbrev pub NamesAreTexts : Type 0
NamesAreTexts = (first second : FormTrees) → AreNamesOf first second (names_of first second)
