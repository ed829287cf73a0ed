-- What the literals of a lawful problem file keep.
use Rattle.std.proofs.Common.{◌≡◌, ℕ, List, [], ◌∷◌, ◌++◌, Bool, true, false, cond, not, length, map, Some, None, refl, sym, ap, ◌∙◌, subst}
use Rattle.std.proofs.Common.{arith}
use Rattle.std.specs.Prelude.{Option, ◌==◌, is_some, unwrap_or, slice_get, if◌then◌else◌}
use Rattle.std.specs.List.{list_any}
use Rattle.std.specs.Option.{option_map, option_map_or}
use Rattle.std.proofs.lemmas.Bool.{true≢false, eqb-true}
use Rattle.std.proofs.lemmas.Option.{slice_get-map}
use Rattle.tl_sexpr.specs.Tree.{FormTree, FormTrees, symbol, integer, list, no_form, more_forms}
use Rattle.tl_syntax.specs.declared.declared.Declared.{Declared}
use Rattle.tl_syntax.specs.declared.domain.Domain.{Domain}
use Rattle.tl_syntax.specs.declared.fact.Fact.{Fact}
use Rattle.tl_syntax.specs.declared.place_value.PlaceValue.{PlaceValue}
use Rattle.tl_syntax.specs.DerivedTests.{fact_eq}
use Rattle.tl_syntax.specs.Kept.{FactKeeps, PlaceKeeps}
use Rattle.tl_syntax.specs.Lists.{Each}
use Rattle.tl_syntax.specs.Named.{ValueIsNamed}
use Rattle.tl_syntax.specs.Signature.{Signature, signature_of, Takes}
use Rattle.tl_rules.specs.declared.rule.Rule.{Rule}
use Rattle.tl_rules.specs.declared.rule.Rule.TheVariants.{Shape, Arity, TwoValues}
use Rattle.tl_rules.specs.Named.{HasNames, HaveNames}
use Rattle.tl_rules.specs.Parts.{count, rest_of}
use Rattle.tl_rules.specs.Rules.{Break, breaks_if}
use Rattle.tl_rules.proofs.NamesHave.{number-below}
use Rattle.tl_problem.specs.declared.elements.Section.{Section}
use Rattle.tl_problem.specs.declared.elements.Section.TheVariants as section
use Rattle.tl_rules.specs.Calls.{CallTree}
use Rattle.tl_problem.specs.ElementWords.{ElementWord, element_word}
use Rattle.tl_problem.specs.ElementWords as word
use Rattle.tl_problem.specs.Literals.{Literals, no_literal, with_fact, with_value, value_among}
use Rattle.tl_problem.specs.Declarations.{position_of, has_declared_arity, declared_call_breaks_at}
use Rattle.tl_problem.specs.Elements.{breaks_or_else, element_call_breaks, with_element_call, element_breaks, with_element, elements_breaks}
use Rattle.tl_problem.specs.Elements.{with_elements}
use Rattle.tl_problem.specs.Facts.{ground_breaks, fact_meant, place_value_breaks, place_value_meant, negation_breaks, negation_meant}
use Rattle.tl_problem.specs.Keeps.{LiteralsKeep, SectionsKeep}
use Rattle.tl_problem.specs.ProblemFiles.{has_problem_shape, section_breaks, section_meant, sections_breaks, sections_meant}
use Rattle.tl_problem.specs.ProblemFiles.{problem_form_breaks, problem_form_meant, problem_file_breaks, problem_file_meant}
use Rattle.tl_rules.specs.Values.{value_meant, values_meant}
use Rattle.tl_problem.proofs.Consistent.{agrees-with_value, consistent-with_fact, consistent-with_not}

-- where two lists together are empty, each is
pub none-parts : (xs ys : List Break) → xs ++ ys ≡ [] → (xs ≡ []) × (ys ≡ [])
none-parts [] ys h = (refl, h)
none-parts (x ∷ xs) ys h = cc

-- where the one list or else the other is empty, each is
pub else-parts : (xs ys : List Break) → breaks_or_else xs ys ≡ [] → (xs ≡ []) × (ys ≡ [])
else-parts [] ys h = (refl, h)
else-parts (x ∷ xs) ys h = cc

-- a test by which nothing is broken fails, and one whose failure would break something passes
pub test-fails : (test : Bool) (r : Rule) (at : ℕ) → breaks_if test r at ≡ [] → test ≡ false
test-fails true r at h = cc
test-fails false r at h = refl

test-passes : (test : Bool) (r : Rule) (at : ℕ) → breaks_if (not test) r at ≡ [] → test ≡ true
test-passes true r at h = refl
test-passes false r at h = cc

Each-last : {A : Type 0} (P : A → Type 0) (xs : List A) (y : A) → Each P xs → P y → Each P (xs ++ y ∷ [])
Each-last P [] y h p = (p, tt)
Each-last P (x ∷ xs) y h p = (h.0, Each-last P xs y h.1 p)

-- values that are named
pub value-named : (names : List (List ℕ)) (f : FormTree) → HasNames names f → ValueIsNamed (length names) (value_meant names f)
value-named names (symbol text at) h = number-below names text h
value-named names (integer z at) h = tt
value-named names (list fs at) h = tt

pub values-named : (names : List (List ℕ)) (fs : FormTrees) → HaveNames names fs →
    Each (ValueIsNamed (length names)) (values_meant names fs)
values-named names no_form h = tt
values-named names (more_forms f fs) h = (value-named names f h.0, values-named names fs h.1)

length-values : (names : List (List ℕ)) (fs : FormTrees) → length (values_meant names fs) ≡ count fs
length-values names no_form = refl
length-values names (more_forms f fs) = omega (arith, length-values names fs)

-- the numbers of arguments of what is declared
abbrev pub arities : List Declared → List ℕ
arities declared = map (λ d. d.arity) declared

arity-takes : (declared : List Declared) (i n : ℕ) → has_declared_arity declared i n ≡ true → Takes (arities declared) i n
arity-takes declared i n h = slice_get-map (λ d. d.arity) declared i ∙ by_item (slice_get declared i) h
  where
    by_item : (item : Option Declared) → option_map_or (λ d. d.arity == n) item false ≡ true → option_map (λ d. d.arity) item ≡ Some n
    by_item None test = cc
    by_item (Some d) test = ap (λ (k : ℕ). Some k) (eqb-true d.arity n test)

called-takes : (declared : List Declared) (found : Option ℕ) (n at : ℕ) → declared_call_breaks_at declared found n at ≡ [] →
    Takes (arities declared) (unwrap_or found 0) n
called-takes declared None n at none = cc
called-takes declared (Some i) n at none = arity-takes declared i n (test-passes (has_declared_arity declared i n) Arity at none)

-- what `(n c*)` calls takes its values
ground-takes : (names : List (List ℕ)) (declared : List Declared) (c : CallTree) → ground_breaks names declared c ≡ [] →
    Takes (arities declared) (unwrap_or (position_of names declared c.word) 0) (length (values_meant names c.rest))
ground-takes names declared c none =
    let P : ℕ → Type 0 = λ n. Takes (arities declared) (unwrap_or (position_of names declared c.word) 0) n in
    subst P (sym (length-values names c.rest)) (called-takes declared (position_of names declared c.word) (count c.rest) c.at
    (none-parts _ _ none).0)

-- a fact that breaks nothing
fact-kept : (g : Signature) (names : List (List ℕ)) (predicates : List Declared) (c : CallTree) → arities predicates ≡ g.predicates →
    HaveNames names c.rest → ground_breaks names predicates c ≡ [] → FactKeeps g (length names) (fact_meant names predicates c)
fact-kept g names predicates c is have none = record {
  takes = let P : List ℕ → Type 0 = λ ns. Takes ns (unwrap_or (position_of names predicates c.word) 0)
      (length (values_meant names c.rest)) in subst P is (ground-takes names predicates c none);
  named = values-named names c.rest have;
}

negation-kept : (g : Signature) (names : List (List ℕ)) (predicates : List Declared) (fs : FormTrees) (at : ℕ) → arities predicates ≡
    g.predicates → HaveNames names fs → negation_breaks names predicates fs at ≡ [] →
    FactKeeps g (length names) (negation_meant names predicates fs)
negation-kept g names predicates (more_forms (list (more_forms (symbol text s) rest) fact) no_form) at is have none =
    fact-kept g names predicates (record { word = text; rest = rest; at = fact }) is have.0.1 none
negation-kept g names predicates (more_forms f no_form) at is have none = cc
negation-kept g names predicates fs at is have none = cc

equality-kept : (g : Signature) (names : List (List ℕ)) (functions : List Declared) (fs : FormTrees) (at : ℕ) → arities functions ≡
    g.functions → HaveNames names fs → place_value_breaks names functions fs at ≡ [] →
    PlaceKeeps g (length names) (place_value_meant names functions fs)
equality-kept g names functions (more_forms (list (more_forms (symbol text s) rest) place) (more_forms value no_form)) at is have none =
    record {
      takes = let P : List ℕ → Type 0 = λ ns. Takes ns (unwrap_or (position_of names functions text) 0)
          (length (values_meant names rest)) in
          subst P is (ground-takes names functions (record { word = text; rest = rest; at = place }) (none-parts _ _ none).0);
      named = values-named names rest have.0.1;
      value = value-named names value have.1.0;
    }
equality-kept g names functions (more_forms f (more_forms value no_form)) at is have none = cc
equality-kept g names functions fs at is have none = cc

-- lists with one more
pub Each-with_fact : (P : Fact → Type 0) (facts : List Fact) (f : Fact) → Each P facts → P f → Each P (with_fact facts f)
Each-with_fact P facts f h p = by_test (list_any (fact_eq f) facts)
  where
    by_test : (known : Bool) → Each P (cond known facts (facts ++ f ∷ []))
    by_test true = h
    by_test false = Each-last P facts f h p

pub Each-with_value : (P : PlaceValue → Type 0) (values : List PlaceValue) (x : PlaceValue) → Each P values → P x →
    Each P (with_value values x)
Each-with_value P values x h p = by_test (is_some (value_among values (x.fun, x.args)))
  where
    by_test : (known : Bool) → Each P (cond known values (values ++ x ∷ []))
    by_test true = h
    by_test false = Each-last P values x h p

-- an element that breaks nothing, after others that keep this
element_call-kept : (names : List (List ℕ)) (d : Domain) (l : Literals) (w : ElementWord) (c : CallTree) → HaveNames names c.rest →
    element_call_breaks names d l w c ≡ [] → LiteralsKeep (signature_of d) (length names) l →
    LiteralsKeep (signature_of d) (length names) (with_element_call names d l w c)
element_call-kept names d l word.Equality c have none kept =
    let parts = else-parts _ _ none in
    let more = equality-kept (signature_of d) names d.functions c.rest c.at refl have parts.0 in
    record {
      facts = kept.facts;
      values = Each-with_value (PlaceKeeps (signature_of d) (length names)) l.values
          (place_value_meant names d.functions c.rest) kept.values more;
      nots = kept.nots;
      agrees = agrees-with_value l.values (place_value_meant names d.functions c.rest) kept.agrees;
      consistent = kept.consistent;
    }
element_call-kept names d l word.Negation c have none kept =
    let parts = else-parts _ _ none in
    let more = negation-kept (signature_of d) names d.predicates c.rest c.at refl have parts.0 in
    record {
      facts = kept.facts;
      values = kept.values;
      nots = Each-with_fact (FactKeeps (signature_of d) (length names)) l.nots (negation_meant names d.predicates c.rest) kept.nots more;
      agrees = kept.agrees;
      consistent = consistent-with_not l.facts l.nots (negation_meant names d.predicates c.rest) kept.consistent
          (test-fails _ TwoValues c.at parts.1);
    }
element_call-kept names d l word.Fact c have none kept =
    let parts = else-parts _ _ none in
    let more = fact-kept (signature_of d) names d.predicates c refl have parts.0 in
    record {
      facts = Each-with_fact (FactKeeps (signature_of d) (length names)) l.facts (fact_meant names d.predicates c) kept.facts more;
      values = kept.values;
      nots = kept.nots;
      agrees = kept.agrees;
      consistent = consistent-with_fact l.facts l.nots (fact_meant names d.predicates c) kept.consistent
          (test-fails _ TwoValues c.at parts.1);
    }

element-kept : (names : List (List ℕ)) (d : Domain) (s : Section) (l : Literals) (f : FormTree) → HasNames names f →
    element_breaks names d s l f ≡ [] → LiteralsKeep (signature_of d) (length names) l →
    LiteralsKeep (signature_of d) (length names) (with_element names d s l f)
element-kept names d s l (list (more_forms (symbol text t) rest) at) have none kept =
    element_call-kept names d l (element_word s text) (record { word = text; rest = rest; at = at }) have.1 none kept
element-kept names d s l f have none kept = cc

elements-kept : (names : List (List ℕ)) (d : Domain) (s : Section) (l : Literals) (fs : FormTrees) → HaveNames names fs →
    elements_breaks names d s l fs ≡ [] → LiteralsKeep (signature_of d) (length names) l →
    LiteralsKeep (signature_of d) (length names) (with_elements names d s l fs)
elements-kept names d s l no_form have none kept = kept
elements-kept names d s l (more_forms f fs) have none kept =
    let parts = none-parts _ _ none in
    elements-kept names d s (with_element names d s l f) fs have.1 parts.1 (element-kept names d s l f have.0 parts.0 kept)

pub rest-have : (names : List (List ℕ)) (f : FormTree) → HasNames names f → HaveNames names (rest_of f)
rest-have names (symbol text at) have = tt
rest-have names (integer z at) have = tt
rest-have names (list no_form at) have = tt
rest-have names (list (more_forms f fs) at) have = have.1

section-kept : (names : List (List ℕ)) (d : Domain) (s : Section) (f : FormTree) → HasNames names f → section_breaks names d s f ≡ [] →
    LiteralsKeep (signature_of d) (length names) (section_meant names d s f)
section-kept names d s f have none =
    elements-kept names d s no_literal (rest_of f) (rest-have names f have) (none-parts _ _ none).1
    (record { facts = tt; values = tt; nots = tt; agrees = refl; consistent = refl })

sections-kept : (names : List (List ℕ)) (d : Domain) (fs : FormTrees) → has_problem_shape fs ≡ true → HaveNames names fs →
    sections_breaks names d fs ≡ [] → SectionsKeep (signature_of d) (length names) (sections_meant names d fs)
sections-kept names d (more_forms word (more_forms name (more_forms init (more_forms goal no_form)))) shape have none =
    let parts = none-parts _ _ none in
    record {
      init = section-kept names d section.Init init have.1.1.0 parts.0;
      goal = section-kept names d section.Goal goal have.1.1.1.0 parts.1;
    }
sections-kept names d fs shape have none = absurd (true≢false (sym shape))

problem_form-kept : (names : List (List ℕ)) (d : Domain) (f : FormTree) → HasNames names f → problem_form_breaks names d f ≡ [] →
    SectionsKeep (signature_of d) (length names) (problem_form_meant names d f)
problem_form-kept names d (symbol text at) have none = cc
problem_form-kept names d (integer z at) have none = cc
problem_form-kept names d (list fs at) have none = by_shape (has_problem_shape fs) refl none
  where
    by_shape : (shape : Bool) → has_problem_shape fs ≡ shape → (if shape then sections_breaks names d fs else ((Shape, at) ∷ [])) ≡ [] →
        SectionsKeep (signature_of d) (length names) (sections_meant names d fs)
    by_shape true is h = sections-kept names d fs is have h
    by_shape false is h = cc

-- what the forms of a problem file say that break nothing
pub problem-kept : (names : List (List ℕ)) (d : Domain) (fs : FormTrees) → problem_file_breaks names d fs ≡ [] → HaveNames names fs →
    SectionsKeep (signature_of d) (length names) (problem_file_meant names d fs)
problem-kept names d no_form none have = cc
problem-kept names d (more_forms f fs) none have = problem_form-kept names d f have.0 (none-parts _ _ none).0
