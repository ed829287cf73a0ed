-- Problem files mean something exactly where they break no rule.
use Rattle.std.proofs.Common.{◌≡◌, ℕ, List, [], ◌∷◌, ◌++◌, refl, sym, ap, ◌∙◌}
use Rattle.std.specs.Prelude.{Bool, true, false, ◌&&◌, nat_lt, Option, Some, None, option_and_then, if◌then◌else◌, codes}
use Rattle.std.specs.List.{list_any}
use Rattle.tl_sexpr.specs.Tree.{FormTree, FormTrees, symbol, integer, list, no_form, more_forms}
use Rattle.tl_syntax.specs.declared.domain.Domain.{Domain}
use Rattle.tl_syntax.specs.declared.fact.Fact.{Fact}
use Rattle.tl_syntax.specs.declared.place_value.PlaceValue.{PlaceValue}
use Rattle.tl_syntax.specs.DerivedTests.{fact_eq}
use Rattle.tl_rules.specs.declared.rule.Rule.TheVariants.{Shape, Limit, TwoValues}
use Rattle.tl_rules.specs.Both.{option_both}
use Rattle.tl_rules.specs.Calls.{CallTree}
use Rattle.tl_rules.specs.OneForm.{second_form_breaks}
use Rattle.tl_rules.specs.Parts.{offset_of, count, is_name, is_word, rest_of, begins_with}
use Rattle.tl_rules.specs.Rules.{Break, breaks_if}
use Rattle.tl_rules.specs.Unbroken.{where_unbroken}
use Rattle.tl_rules.proofs.Unbroken.{both-unbroken, next-unbroken, unless-unbroken, end-unbroken}
use Rattle.tl_problem.specs.declared.elements.Section.{Section}
use Rattle.tl_problem.specs.declared.elements.Section.TheVariants as section
use Rattle.tl_problem.specs.Elements.{breaks_or_else, element_call_breaks, with_element_call, element_breaks}
use Rattle.tl_problem.specs.Elements.{with_element, elements_breaks, with_elements}
use Rattle.tl_problem.specs.ElementWords.{ElementWord, element_word}
use Rattle.tl_problem.specs.ElementWords as word
use Rattle.tl_problem.specs.Facts.{ground_breaks, place_value_breaks, negation_breaks}
use Rattle.tl_problem.specs.Literals.{Literals, no_literal, and_fact, and_value, and_not, has_other_value}
use Rattle.tl_problem.specs.PartialProblems.{element_call_meaning, element_meaning, elements_meaning, section_meaning, sections_meaning}
use Rattle.tl_problem.specs.PartialProblems.{problem_meaning}
use Rattle.tl_problem.specs.ProblemFiles.{section_breaks, problem_form_breaks, problem_file_breaks}
use Rattle.tl_problem.specs.ProblemFiles.{section_meant, sections_meant, problem_file_meant}
use Rattle.tl_problem.specs.Sections.{Sections}
use Rattle.tl_problem.proofs.MeanFacts.{fact-mean, negation-mean, place-value-mean}

-- what is looked for only where nothing breaks before
else-unbroken : {A : Type 0} (test : A → Bool) (make : A → Literals) (xs : List Break) (at : ℕ) (x : A) →
    option_and_then (λ y. if test y then None else Some (make y)) (where_unbroken xs x) ≡
    where_unbroken (breaks_or_else xs (breaks_if (test x) TwoValues at)) (make x)
else-unbroken test make (b ∷ bs) at x = refl
else-unbroken test make [] at x = cases (test x)
  where
    cases : (t : Bool) → (if t then None else Some (make x)) ≡ where_unbroken (breaks_if t TwoValues at) (make x)
    cases true = refl
    cases false = refl

element-mean : (names : List (List ℕ)) (d : Domain) (s : Section) (l : Literals) (f : FormTree) → element_meaning names d s l f ≡
    where_unbroken (element_breaks names d s l f) (with_element names d s l f)
element-mean names d s l (symbol text at) = refl
element-mean names d s l (integer z at) = refl
element-mean names d s l (list no_form at) = refl
element-mean names d s l (list (more_forms (integer z _) rest) at) = refl
element-mean names d s l (list (more_forms (list fs _) rest) at) = refl
element-mean names d s l (list (more_forms (symbol text i) rest) at) = cases (element_word s text)
  where
    c : CallTree
    c = record { word = text; rest = rest; at = at }

    cases : (w : ElementWord) → element_call_meaning names d l w (list (more_forms (symbol text i) rest) at) ≡
        where_unbroken (element_call_breaks names d l w c) (with_element_call names d l w c)
    cases word.Equality =
        ap (λ (m : Option PlaceValue). option_and_then (λ x. if has_other_value l.values x then None else Some (and_value l x)) m)
        (place-value-mean names d.functions rest at)
        ∙ else-unbroken (has_other_value l.values) (and_value l) (place_value_breaks names d.functions rest at) at _
    cases word.Negation =
        ap (λ (m : Option Fact). option_and_then (λ x. if list_any (fact_eq x) l.facts then None else Some (and_not l x)) m)
        (negation-mean names d.predicates rest at)
        ∙ else-unbroken (λ x. list_any (fact_eq x) l.facts) (and_not l) (negation_breaks names d.predicates rest at) at _
    cases word.Fact =
        ap (λ (m : Option Fact). option_and_then (λ x. if list_any (fact_eq x) l.nots then None else Some (and_fact l x)) m)
        (fact-mean names d.predicates text i rest at)
        ∙ else-unbroken (λ x. list_any (fact_eq x) l.nots) (and_fact l) (ground_breaks names d.predicates c) at _

elements-mean : (names : List (List ℕ)) (d : Domain) (s : Section) (l : Literals) (fs : FormTrees) → elements_meaning names d s l fs ≡
    where_unbroken (elements_breaks names d s l fs) (with_elements names d s l fs)
elements-mean names d s l no_form = refl
elements-mean names d s l (more_forms f fs) =
    let m = with_element names d s l f in
    ap (λ (o : Option Literals). option_and_then (λ k. elements_meaning names d s k fs) o) (element-mean names d s l f)
    ∙ next-unbroken (λ k. elements_meaning names d s k fs) (element_breaks names d s l f) (elements_breaks names d s m fs) m _
    (elements-mean names d s m fs)

section-mean : (names : List (List ℕ)) (d : Domain) (s : Section) (f : FormTree) → section_meaning names d s f ≡
    where_unbroken (section_breaks names d s f) (section_meant names d s f)
section-mean names d s f = unless-unbroken (nat_lt 4096 (count (rest_of f))) Limit (offset_of f)
    (elements_breaks names d s no_literal (rest_of f)) _ _ (elements-mean names d s no_literal (rest_of f))

form-mean : (names : List (List ℕ)) (d : Domain) (fs : FormTrees) (at : ℕ) → sections_meaning names d fs ≡
    where_unbroken (problem_form_breaks names d (list fs at)) (sections_meant names d fs)
form-mean names d no_form at = refl
form-mean names d (more_forms f no_form) at = refl
form-mean names d (more_forms f (more_forms g no_form)) at = refl
form-mean names d (more_forms f (more_forms g (more_forms h no_form))) at = refl
form-mean names d (more_forms f (more_forms g (more_forms init (more_forms goal no_form)))) at =
    ap (λ (o : Option Sections). if fits then o else None)
    ((λ i. option_both made (section-mean names d section.Init init i) (section-mean names d section.Goal goal i))
    ∙ both-unbroken made (section_breaks names d section.Init init) (section_breaks names d section.Goal goal) _ _)
    ∙ cases fits
  where
    fits : Bool
    fits = is_word (codes "problem") f && is_name g && begins_with (codes "init") init && begins_with (codes "goal") goal

    made : Literals → Literals → Sections
    made i g = record { init = i; goal = g }

    both : List Break
    both = section_breaks names d section.Init init ++ section_breaks names d section.Goal goal

    x : Sections
    x = made (section_meant names d section.Init init) (section_meant names d section.Goal goal)

    cases : (t : Bool) → (if t then where_unbroken both x else None) ≡ where_unbroken (if t then both else (Shape, at) ∷ []) x
    cases true = refl
    cases false = refl
form-mean names d (more_forms f (more_forms g (more_forms h (more_forms i (more_forms k fs))))) at = refl

pub problem-mean : (names : List (List ℕ)) (d : Domain) (forms : FormTrees) → problem_meaning names d forms ≡
    where_unbroken (problem_file_breaks names d forms) (problem_file_meant names d forms)
problem-mean names d no_form = refl
problem-mean names d (more_forms (symbol text at) fs) = refl
problem-mean names d (more_forms (integer z at) fs) = refl
problem-mean names d (more_forms (list fs at) no_form) =
    form-mean names d fs at ∙ sym (end-unbroken (problem_form_breaks names d (list fs at)) _)
problem-mean names d (more_forms (list fs at) (more_forms f gs)) = lost (problem_form_breaks names d (list fs at))
  where
    lost : (xs : List Break) → None ≡ where_unbroken (xs ++ second_form_breaks (more_forms f gs)) (sections_meant names d fs)
    lost [] = refl
    lost (b ∷ bs) = refl
