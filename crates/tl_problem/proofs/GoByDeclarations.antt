-- What a problem file breaks and says depends on what the domain declares alone.
use Rattle.std.proofs.Common.{◌≡◌, ℕ, List, [], ◌∷◌, ◌++◌, refl, ap, ◌∙◌}
use Rattle.std.specs.Prelude.{Option, Some, None, nat_lt, if◌then◌else◌}
use Rattle.tl_sexpr.specs.Tree.{FormTree, FormTrees, symbol, integer, list, no_form, more_forms}
use Rattle.tl_syntax.specs.declared.declared.Declared.{Declared}
use Rattle.tl_syntax.specs.declared.domain.Domain.{Domain}
use Rattle.tl_rules.specs.declared.rule.Rule.TheVariants.{Shape, Limit}
use Rattle.tl_rules.specs.Parts.{offset_of, count, rest_of}
use Rattle.tl_rules.specs.Rules.{breaks_if}
use Rattle.tl_problem.specs.declared.elements.Section.{Section}
use Rattle.tl_problem.specs.declared.elements.Section.TheVariants as section
use Rattle.tl_rules.specs.Calls.{CallTree, call_in}
use Rattle.tl_problem.specs.ElementWords.{ElementWord, element_word}
use Rattle.tl_problem.specs.ElementWords as word
use Rattle.tl_problem.specs.Literals.{Literals, no_literal, and_fact, and_value, and_not, fact_denied, fact_said, value_differs}
use Rattle.tl_problem.specs.Elements.{breaks_or_else, element_call_breaks, with_element_call, called_breaks, with_called, element_breaks}
use Rattle.tl_problem.specs.Elements.{with_element, elements_breaks, with_elements}
use Rattle.tl_problem.specs.LawsDeclarations.{DeclareAlike, FilesGoByDeclarations}
use Rattle.tl_problem.specs.Facts.{ground_breaks, fact_meant, place_value_breaks, place_value_meant, negation_breaks, negation_meant}
use Rattle.tl_rules.specs.OneForm.{second_form_breaks}
use Rattle.tl_problem.specs.ProblemFiles.{has_problem_shape, section_breaks, sections_breaks, problem_form_breaks, problem_file_breaks}
use Rattle.tl_problem.specs.ProblemFiles.{sections_meant, problem_form_meant, problem_file_meant}

module _ (names : List (List ℕ)) (d e : Domain) (alike : DeclareAlike d e) where
  call_breaks : (l : Literals) (w : ElementWord) (c : CallTree) → element_call_breaks names d l w c ≡ element_call_breaks names e l w c
  call_breaks l word.Equality c =
      let fs = alike.functions in
      λ i. breaks_or_else (place_value_breaks names (fs i) c.rest c.at) (value_differs l (place_value_meant names (fs i) c.rest) c.at)
  call_breaks l word.Negation c =
      let ps = alike.predicates in
      λ i. breaks_or_else (negation_breaks names (ps i) c.rest c.at) (fact_said l (negation_meant names (ps i) c.rest) c.at)
  call_breaks l word.Fact c =
      let ps = alike.predicates in
      λ i. breaks_or_else (ground_breaks names (ps i) c) (fact_denied l (fact_meant names (ps i) c) c.at)

  with_call : (l : Literals) (w : ElementWord) (c : CallTree) → with_element_call names d l w c ≡ with_element_call names e l w c
  with_call l word.Equality c = ap (λ (fs : List Declared). and_value l (place_value_meant names fs c.rest)) alike.functions
  with_call l word.Negation c = ap (λ (ps : List Declared). and_not l (negation_meant names ps c.rest)) alike.predicates
  with_call l word.Fact c = ap (λ (ps : List Declared). and_fact l (fact_meant names ps c)) alike.predicates

  called : (s : Section) (l : Literals) (c : Option CallTree) (at : ℕ) → called_breaks names d s l c at ≡ called_breaks names e s l c at
  called s l (Some c) at = call_breaks l (element_word s c.word) c
  called s l None at = refl

  one_breaks : (s : Section) (l : Literals) (f : FormTree) → element_breaks names d s l f ≡ element_breaks names e s l f
  one_breaks s l f = called s l (call_in f) (offset_of f)

  with_some : (s : Section) (l : Literals) (c : Option CallTree) → with_called names d s l c ≡ with_called names e s l c
  with_some s l (Some c) = with_call l (element_word s c.word) c
  with_some s l None = refl

  with_one : (s : Section) (l : Literals) (f : FormTree) → with_element names d s l f ≡ with_element names e s l f
  with_one s l f = with_some s l (call_in f)

  all_breaks : (s : Section) (l : Literals) (fs : FormTrees) → elements_breaks names d s l fs ≡ elements_breaks names e s l fs
  all_breaks s l no_form = refl
  all_breaks s l (more_forms f fs) =
      let first = one_breaks s l f in
      let others = all_breaks s (with_element names d s l f) fs ∙ ap (λ m. elements_breaks names e s m fs) (with_one s l f) in
      λ i. first i ++ others i

  with_all : (s : Section) (l : Literals) (fs : FormTrees) → with_elements names d s l fs ≡ with_elements names e s l fs
  with_all s l no_form = refl
  with_all s l (more_forms f fs) = with_all s (with_element names d s l f) fs ∙ ap (λ m. with_elements names e s m fs) (with_one s l f)

  of_section : (s : Section) (f : FormTree) → section_breaks names d s f ≡ section_breaks names e s f
  of_section s f =
      let inner = all_breaks s no_literal (rest_of f) in
      λ i. breaks_if (nat_lt 4096 (count (rest_of f))) Limit (offset_of f) ++ inner i

  of_sections : (fs : FormTrees) → sections_breaks names d fs ≡ sections_breaks names e fs
  of_sections no_form = refl
  of_sections (more_forms w no_form) = refl
  of_sections (more_forms w (more_forms n no_form)) = refl
  of_sections (more_forms w (more_forms n (more_forms init no_form))) = refl
  of_sections (more_forms w (more_forms n (more_forms init (more_forms goal no_form)))) =
      let first = of_section section.Init init in
      let second = of_section section.Goal goal in
      λ i. first i ++ second i
  of_sections (more_forms w (more_forms n (more_forms init (more_forms goal (more_forms f fs))))) = refl

  said_in_sections : (fs : FormTrees) → sections_meant names d fs ≡ sections_meant names e fs
  said_in_sections no_form = refl
  said_in_sections (more_forms w no_form) = refl
  said_in_sections (more_forms w (more_forms n no_form)) = refl
  said_in_sections (more_forms w (more_forms n (more_forms init no_form))) = refl
  said_in_sections (more_forms w (more_forms n (more_forms init (more_forms goal no_form)))) =
      let first = with_all section.Init no_literal (rest_of init) in
      let second = with_all section.Goal no_literal (rest_of goal) in
      λ i. record { init = first i; goal = second i }
  said_in_sections (more_forms w (more_forms n (more_forms init (more_forms goal (more_forms f fs))))) = refl

  of_form : (f : FormTree) → problem_form_breaks names d f ≡ problem_form_breaks names e f
  of_form (symbol text at) = refl
  of_form (integer z at) = refl
  of_form (list fs at) =
      let inner = of_sections fs in
      λ i. if has_problem_shape fs then inner i else ((Shape, at) ∷ [])

  of_file : (fs : FormTrees) → problem_file_breaks names d fs ≡ problem_file_breaks names e fs
  of_file no_form = refl
  of_file (more_forms f fs) =
      let inner = of_form f in
      λ i. inner i ++ second_form_breaks fs

  said_in_form : (f : FormTree) → problem_form_meant names d f ≡ problem_form_meant names e f
  said_in_form (symbol text at) = refl
  said_in_form (integer z at) = refl
  said_in_form (list fs at) = said_in_sections fs

  said_in_file : (fs : FormTrees) → problem_file_meant names d fs ≡ problem_file_meant names e fs
  said_in_file no_form = refl
  said_in_file (more_forms f fs) = said_in_form f

-- the same rules are broken, and the same is said
pub go_by_declarations : FilesGoByDeclarations
go_by_declarations names d e forms alike = (of_file names d e alike forms, said_in_file names d e alike forms)
