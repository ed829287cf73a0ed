-- The values of the facts and places of a lawful problem file are no variables, under any names for its symbols.
use Rattle.std.proofs.Common.{◌≡◌, ℕ, List, [], ◌∷◌, Bool, true, false, refl, sym}
use Rattle.std.specs.Prelude.{if◌then◌else◌}
use Rattle.std.proofs.lemmas.Bool.{true≢false}
use Rattle.tl_sexpr.specs.Tree.{FormTree, FormTrees, symbol, integer, list, no_form, more_forms}
use Rattle.tl_syntax.specs.declared.domain.Domain.{Domain}
use Rattle.tl_syntax.specs.Lists.{Each}
use Rattle.tl_syntax.specs.ValueTests.{FactPasses, PlacePasses, ValuesPass}
use Rattle.tl_rules.specs.declared.rule.Rule.TheVariants.{Shape, NotGround}
use Rattle.tl_rules.specs.Calls.{CallTree}
use Rattle.tl_rules.specs.Named.{HasNames, HaveNames}
use Rattle.tl_rules.specs.Parts.{is_variable, rest_of}
use Rattle.tl_rules.specs.Values.{value_meant, values_meant}
use Rattle.tl_problem.specs.declared.elements.Section.{Section}
use Rattle.tl_problem.specs.declared.elements.Section.TheVariants as section
use Rattle.tl_problem.specs.ElementWords.{ElementWord, element_word}
use Rattle.tl_problem.specs.ElementWords as word
use Rattle.tl_problem.specs.Elements.{element_call_breaks, with_element_call, element_breaks, with_element, elements_breaks, with_elements}
use Rattle.tl_problem.specs.Facts.{ground_breaks, fact_meant, place_value_breaks, place_value_meant, negation_breaks, negation_meant}
use Rattle.tl_problem.specs.Literals.{Literals, no_literal}
use Rattle.tl_problem.specs.ProblemFiles.{has_problem_shape, section_breaks, section_meant, sections_breaks, sections_meant}
use Rattle.tl_problem.specs.ProblemFiles.{problem_form_breaks, problem_form_meant, problem_file_breaks, problem_file_meant}
use Rattle.tl_problem.specs.Sections.{Sections}
use Rattle.tl_problem.specs.Values.{value_breaks, values_breaks}
use Rattle.tl_problem.proofs.Kept.{none-parts, else-parts, test-fails, Each-with_fact, Each-with_value, rest-have}
use Rattle.tl_domain.specs.LawsNames.{is_constant}
use Rattle.tl_domain.proofs.ConstantEffects.{name-passes}

-- the values of what a section says pass
pub record LiteralsPass (names : List (List ℕ)) (l : Literals) : Type 0 where
  pub facts : Each (FactPasses (is_constant names)) l.facts
  pub values : Each (PlacePasses (is_constant names)) l.values
  pub nots : Each (FactPasses (is_constant names)) l.nots

-- and those of both sections
pub record SectionsPass (names : List (List ℕ)) (s : Sections) : Type 0 where
  pub init : LiteralsPass names s.init
  pub goal : LiteralsPass names s.goal

-- the forms break nothing under the first names and declarations, and what they say is read under the second
module _ (others : List (List ℕ)) (e : Domain) (names : List (List ℕ)) (d : Domain) where
  value-passes : (f : FormTree) → HasNames names f → value_breaks f ≡ [] → is_constant names (value_meant names f) ≡ true
  value-passes (symbol text at) has none = name-passes names text has (test-fails (is_variable text) NotGround at none)
  value-passes (integer z at) has none = refl
  value-passes (list fs at) has none = cc

  values-pass : (fs : FormTrees) → HaveNames names fs → values_breaks fs ≡ [] → ValuesPass (is_constant names) (values_meant names fs)
  values-pass no_form has none = tt
  values-pass (more_forms f fs) has none = let parts = none-parts (value_breaks f) (values_breaks fs) none in
      (value-passes f has.0 parts.0, values-pass fs has.1 parts.1)

  fact-passes : (c : CallTree) → HaveNames names c.rest → ground_breaks others e.predicates c ≡ [] →
      FactPasses (is_constant names) (fact_meant names d.predicates c)
  fact-passes c has none = values-pass c.rest has (none-parts _ _ none).1

  negation-passes : (fs : FormTrees) (at : ℕ) → HaveNames names fs → negation_breaks others e.predicates fs at ≡ [] →
      FactPasses (is_constant names) (negation_meant names d.predicates fs)
  negation-passes (more_forms (list (more_forms (symbol text s) rest) fact) no_form) at has none =
      fact-passes (record { word = text; rest = rest; at = fact }) has.0.1 none
  negation-passes (more_forms f no_form) at has none = cc
  negation-passes fs at has none = cc

  equality-passes : (fs : FormTrees) (at : ℕ) → HaveNames names fs → place_value_breaks others e.functions fs at ≡ [] →
      PlacePasses (is_constant names) (place_value_meant names d.functions fs)
  equality-passes (more_forms (list (more_forms (symbol text s) rest) place) (more_forms value no_form)) at has none =
      let parts = none-parts (ground_breaks others e.functions (record { word = text; rest = rest; at = place }))
      (value_breaks value) none in
      (values-pass rest has.0.1 (none-parts _ _ parts.0).1, value-passes value has.1.0 parts.1)
  equality-passes (more_forms f (more_forms value no_form)) at has none = cc
  equality-passes fs at has none = cc

  element_call-passes : (k l : Literals) (w : ElementWord) (c : CallTree) → HaveNames names c.rest →
      element_call_breaks others e k w c ≡ [] → LiteralsPass names l → LiteralsPass names (with_element_call names d l w c)
  element_call-passes k l word.Equality c has none h =
      let more = equality-passes c.rest c.at has (else-parts _ _ none).0 in
      record {
        facts = h.facts;
        values = Each-with_value (PlacePasses (is_constant names)) l.values
            (place_value_meant names d.functions c.rest) h.values more;
        nots = h.nots;
      }
  element_call-passes k l word.Negation c has none h =
      let more = negation-passes c.rest c.at has (else-parts _ _ none).0 in
      record {
        facts = h.facts;
        values = h.values;
        nots = Each-with_fact (FactPasses (is_constant names)) l.nots
            (negation_meant names d.predicates c.rest) h.nots more;
      }
  element_call-passes k l word.Fact c has none h =
      let more = fact-passes c has (else-parts _ _ none).0 in
      record {
        facts = Each-with_fact (FactPasses (is_constant names)) l.facts (fact_meant names d.predicates c) h.facts more;
        values =
            h.values;
        nots = h.nots;
      }

  element-passes : (s : Section) (k l : Literals) (f : FormTree) → HasNames names f → element_breaks others e s k f ≡ [] →
      LiteralsPass names l → LiteralsPass names (with_element names d s l f)
  element-passes s k l (list (more_forms (symbol text t) rest) at) has none h =
      element_call-passes k l (element_word s text) (record { word = text; rest = rest; at = at }) has.1 none h
  element-passes s k l f has none h = cc

  elements-pass : (s : Section) (k l : Literals) (fs : FormTrees) → HaveNames names fs → elements_breaks others e s k fs ≡ [] →
      LiteralsPass names l → LiteralsPass names (with_elements names d s l fs)
  elements-pass s k l no_form has none h = h
  elements-pass s k l (more_forms f fs) has none h =
      let parts = none-parts (element_breaks others e s k f) (elements_breaks others e s (with_element others e s k f) fs) none in
      elements-pass s (with_element others e s k f) (with_element names d s l f) fs has.1 parts.1 (element-passes s k l f has.0 parts.0 h)

  section-passes : (s : Section) (f : FormTree) → HasNames names f → section_breaks others e s f ≡ [] →
      LiteralsPass names (section_meant names d s f)
  section-passes s f has none = elements-pass s no_literal no_literal (rest_of f) (rest-have names f has) (none-parts _ _ none).1
      (record { facts = tt; values = tt; nots = tt })

  sections-pass : (fs : FormTrees) → has_problem_shape fs ≡ true → HaveNames names fs → sections_breaks others e fs ≡ [] →
      SectionsPass names (sections_meant names d fs)
  sections-pass (more_forms first (more_forms name (more_forms init (more_forms goal no_form)))) shape has none =
      let parts = none-parts (section_breaks others e section.Init init) (section_breaks others e section.Goal goal) none in
      record { init = section-passes section.Init init has.1.1.0 parts.0; goal = section-passes section.Goal goal has.1.1.1.0 parts.1 }
  sections-pass fs shape has none = absurd (true≢false (sym shape))

  problem_form-passes : (f : FormTree) → HasNames names f → problem_form_breaks others e f ≡ [] →
      SectionsPass names (problem_form_meant names d f)
  problem_form-passes (symbol text at) has none = cc
  problem_form-passes (integer z at) has none = cc
  problem_form-passes (list fs at) has none = by_shape (has_problem_shape fs) refl none
    where
      by_shape : (shape : Bool) → has_problem_shape fs ≡ shape → (if shape then sections_breaks others e fs else ((Shape, at) ∷ [])) ≡ [] →
          SectionsPass names (sections_meant names d fs)
      by_shape true is h = sections-pass fs is has h
      by_shape false is h = cc

  pub problem-passes : (fs : FormTrees) → problem_file_breaks others e fs ≡ [] → HaveNames names fs →
      SectionsPass names (problem_file_meant names d fs)
  problem-passes no_form none has = cc
  problem-passes (more_forms f fs) none has = problem_form-passes f has.0 (none-parts _ _ none).0
