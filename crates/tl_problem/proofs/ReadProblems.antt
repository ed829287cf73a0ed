-- What a lawful file gives the problem that is made of it.
use Rattle.std.proofs.Common.{◌≡◌, ℕ, List, [], Bool, true, false, length, refl, sym, ap, ◌∙◌, subst}
use Rattle.std.specs.Prelude.{if◌then◌else◌, codes}
use Rattle.std.specs.Str.{bytes_eq}
use Rattle.tl_sexpr.specs.Offsets.{AreAsRead}
use Rattle.tl_sexpr.specs.Tree.{FormTree, FormTrees, symbol, integer, list, no_form, more_forms}
use Rattle.tl_syntax.specs.declared.domain.Domain.{Domain}
use Rattle.tl_syntax.specs.Signature.{signature_of}
use Rattle.tl_rules.specs.declared.rule.FormFault.{FormFault}
use Rattle.tl_rules.specs.declared.rule.FormFault.TheVariants.{Breaks, NoMemory}
use Rattle.tl_rules.specs.Calls.{CallTree}
use Rattle.tl_rules.specs.Named.{HaveNames}
use Rattle.tl_rules.specs.Parts.{rest_of}
use Rattle.tl_rules.specs.Reads.{IsFirst, IsLeastFault}
use Rattle.tl_problem.specs.declared.elements.Section.TheVariants as section
use Rattle.tl_problem.specs.ElementWords.{element_word}
use Rattle.tl_problem.specs.ElementWords as word
use Rattle.tl_problem.specs.Elements.{with_element_call, with_element, with_elements}
use Rattle.tl_problem.specs.Keeps.{SectionsKeep}
use Rattle.tl_problem.specs.Literals.{Literals, no_literal}
use Rattle.tl_problem.specs.ProblemFiles.{sections_meant, problem_form_meant, problem_file_breaks, problem_file_meant}
use Rattle.tl_problem.specs.Sections.{Sections}
use Rattle.tl_problem.proofs.FileOrder.{first-break-least}
use Rattle.tl_problem.proofs.Kept.{problem-kept}

-- ---- nothing is negated at first

init-word : (c : CallTree) (names : List (List ℕ)) (d : Domain) (l : Literals) → l.nots ≡ [] →
    (with_element_call names d l (element_word section.Init c.word) c).nots ≡ []
init-word c names d l none = by_test (bytes_eq c.word (codes "="))
  where
    by_test : (b : Bool) → (with_element_call names d l (if b then word.Equality else word.Fact) c).nots ≡ []
    by_test true = none
    by_test false = none

init-element : (names : List (List ℕ)) (d : Domain) (l : Literals) (f : FormTree) → l.nots ≡ [] →
    (with_element names d section.Init l f).nots ≡ []
init-element names d l (list (more_forms (symbol text t) rest) at) none =
    init-word (record { word = text; rest = rest; at = at }) names d l none
init-element names d l f none = none

init-elements : (names : List (List ℕ)) (d : Domain) (l : Literals) (fs : FormTrees) → l.nots ≡ [] →
    (with_elements names d section.Init l fs).nots ≡ []
init-elements names d l no_form none = none
init-elements names d l (more_forms f fs) none = init-elements names d (with_element names d section.Init l f) fs
    (init-element names d l f none)

init-sections : (names : List (List ℕ)) (d : Domain) (fs : FormTrees) → (sections_meant names d fs).init.nots ≡ []
init-sections names d (more_forms word (more_forms name (more_forms init (more_forms goal no_form)))) =
    init-elements names d no_literal (rest_of init) refl
init-sections names d fs = refl

init-form : (names : List (List ℕ)) (d : Domain) (f : FormTree) → (problem_form_meant names d f).init.nots ≡ []
init-form names d (symbol text at) = refl
init-form names d (integer z at) = refl
init-form names d (list fs at) = init-sections names d fs

init-file : (names : List (List ℕ)) (d : Domain) (forms : FormTrees) → (problem_file_meant names d forms).init.nots ≡ []
init-file names d no_form = refl
init-file names d (more_forms f fs) = init-form names d f

pub init-said : (names : List (List ℕ)) (d : Domain) (forms : FormTrees) (said : Sections) → said ≡ problem_file_meant names d forms →
    said.init.nots ≡ []
init-said names d forms said is = ap (λ (s : Sections). s.init.nots) is ∙ init-file names d forms

-- what the file says
pub said-keeps : (names : List (List ℕ)) (d : Domain) (forms : FormTrees) (said : Sections) → problem_file_breaks names d forms ≡ [] →
    HaveNames names forms → said ≡ problem_file_meant names d forms → SectionsKeep (signature_of d) (length names) said
said-keeps names d forms said none have is =
    subst (λ (s : Sections). SectionsKeep (signature_of d) (length names) s) (sym is) (problem-kept names d forms none have)

-- the first break is the least
pub least-read : (names : List (List ℕ)) (d : Domain) (forms : FormTrees) (e : FormFault) → IsFirst (problem_file_breaks names d forms) e →
    AreAsRead forms → IsLeastFault (problem_file_breaks names d forms) e
least-read names d forms (Breaks broken at) first read = first-break-least names d forms (broken, at) read first
least-read names d forms NoMemory first read = tt
