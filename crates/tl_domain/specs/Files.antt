-- What a domain file and a problem file stand for together, by the forms of both.
--
-- Names are the texts of all symbols of both files. The number of a name is its place in the order
-- of their bytes.
use Rattle.std.specs.Prelude.{◌≡◌, ◌↔◌, ◌⊎◌, ◌+◌, ◌<◌, ◌^◌, ℕ, List, [], ◌∷◌, length}
use Rattle.std.specs.BTreeSet.{insert_key}
use Rattle.std.specs.Cmp.Lexicographic.{slice_cmp}
use Rattle.std.specs.Ordering.{nat_cmp}
use Rattle.tl_sexpr.specs.Spelling.{symbols_in_all}
use Rattle.tl_sexpr.specs.Tree.{FormTrees}
use Rattle.tl_syntax.specs.declared.domain.Domain.{Domain}
use Rattle.tl_syntax.specs.declared.formula.Formula.TheVariants.{True}
use Rattle.tl_syntax.specs.declared.problem.Problem.{Problem}
use Rattle.tl_syntax.specs.Kept.{DomainKeeps}
use Rattle.tl_syntax.specs.Lists.{Among}
use Rattle.tl_syntax.specs.Settled.{IsInOrder}
use Rattle.tl_rules.specs.Named.{HaveSymbol}
use Rattle.tl_rules.specs.Rules.{Break}
use Rattle.tl_rules.specs.Symbols.{names_with_all}
use Rattle.tl_problem.specs.ProblemFiles.{problem_file_breaks, problem_file_meant}
use Rattle.tl_problem.specs.Sections.{sections_of}
use Rattle.tl_domain.specs.DomainFiles.{domain_file_breaks}
use Rattle.tl_domain.specs.DomainTrees.{DomainTree, domain_tree}
use Rattle.tl_domain.specs.MeaningOfItems.{domain_file_meant}

-- texts in the order of their bytes, each once
abbrev pub in_order : List (List ℕ) → List (List ℕ)
in_order [] = []
in_order (x ∷ xs) = insert_key (slice_cmp nat_cmp) (in_order xs) x

-- the texts of the symbols of both files, each once, in the order of their bytes
abbrev pub names_of : FormTrees → FormTrees → List (List ℕ)
names_of first second = in_order (names_with_all (names_with_all [] first) second)

-- the symbols of both files together have numbers of 32 bits
abbrev pub HaveRoomTogether : FormTrees → FormTrees → Type 0
HaveRoomTogether first second = symbols_in_all first + symbols_in_all second < 2 ^ 32

-- a domain with these predicates and functions alone; a problem file goes by nothing else of its
-- domain
abbrev pub declared_in : DomainTree → Domain
declared_in d = record {
  name = d.name;
  predicates = d.predicates;
  functions = d.functions;
  definitions = [];
  operators = [];
  control = True;
}

-- the rules that the forms of a problem file break after those of a domain file
abbrev pub problem_breaks : FormTrees → FormTrees → List Break
problem_breaks first second =
    problem_file_breaks (names_of first second)
    (declared_in (domain_file_meant (names_of first second) first)) second

-- the names are the texts of the symbols of both files, each once, in the order of their bytes
pub record AreNamesOf (first second : FormTrees) (names : List (List ℕ)) : Type 0 where
  pub in_order : IsInOrder names
  pub are_texts : (text : List ℕ) → Among text names ↔ (HaveSymbol first text ⊎ HaveSymbol second text)

-- the forms of both files break no rule and stand for this problem: its domain is what the first
-- mean, and what is true at first and what is wanted is what the second say
pub record AreFilesOf (first second : FormTrees) (p : Problem) : Type 0 where
  pub domain_lawful : domain_file_breaks first ≡ []
  pub problem_lawful : problem_breaks first second ≡ []
  pub names : AreNamesOf first second p.names
  pub domain : domain_tree p.domain ≡ domain_file_meant p.names first
  pub said : sections_of p ≡ problem_file_meant p.names p.domain second

-- the names of both files, and the domain of the first, which keeps what the domain of every
-- problem keeps
pub record IsRead (first second : FormTrees) (made : List (List ℕ) × Domain) : Type 0 where
  pub names : made.0 ≡ names_of first second
  pub domain : domain_tree made.1 ≡ domain_file_meant (names_of first second) first
  pub keeps : DomainKeeps (length made.0) made.1
