-- The order of what problem files break.
use Rattle.std.proofs.Common.{◌≡◌, ℕ, ◌+◌, ◌*◌, ◌≤◌, List, [], ◌∷◌, Some, arith}
use Rattle.std.specs.Prelude.{Option, None, not, nat_lt}
use Rattle.std.specs.List.{list_any}
use Rattle.tl_sexpr.specs.Offsets.{RisesFrom, RiseFrom, AreAsRead}
use Rattle.tl_sexpr.specs.Tree.{FormTree, FormTrees, symbol, integer, list, no_form, more_forms}
use Rattle.tl_syntax.specs.declared.declared.Declared.{Declared}
use Rattle.tl_syntax.specs.declared.domain.Domain.{Domain}
use Rattle.tl_syntax.specs.DerivedTests.{fact_eq}
use Rattle.tl_rules.specs.declared.rule.Rule.TheVariants.{Shape, Unknown, Arity, Limit, NotGround, TwoValues}
use Rattle.tl_rules.specs.Rules.{Break, first_break, IsLeastBreak}
use Rattle.tl_rules.specs.Parts.{is_variable, offset_of, count, rest_of}
use Rattle.tl_rules.proofs.Offsets.{form-within, forms-within, rest-rises}
use Rattle.tl_rules.proofs.OneForm.{second_form-order}
use Rattle.tl_rules.proofs.Order.{IsInOrder, from, up_to, both, none, one, tested, either, first-least}
use Rattle.tl_problem.specs.declared.elements.Section.{Section}
use Rattle.tl_problem.specs.declared.elements.Section.TheVariants as section
use Rattle.tl_rules.specs.Calls.{CallTree}
use Rattle.tl_problem.specs.ElementWords.{ElementWord, element_word}
use Rattle.tl_problem.specs.ElementWords as word
use Rattle.tl_problem.specs.Literals.{Literals, no_literal, has_other_value}
use Rattle.tl_problem.specs.Declarations.{position_of, has_declared_arity, declared_call_breaks_at}
use Rattle.tl_problem.specs.Elements.{breaks_or_else, element_call_breaks, element_breaks, with_element, elements_breaks}
use Rattle.tl_problem.specs.Facts.{ground_breaks, fact_meant, place_value_breaks, place_value_meant, negation_breaks, negation_meant}
use Rattle.tl_problem.specs.ProblemFiles.{has_problem_shape, section_breaks, sections_breaks, problem_form_breaks, problem_file_breaks}
use Rattle.tl_problem.specs.Values.{value_breaks, values_breaks}

value-order : (f : FormTree) (low next : ℕ) → RisesFrom low f next → IsInOrder (64 * low) (value_breaks f) (64 * next)
value-order (symbol text at) low next h = tested (is_variable text) NotGround at (64 * low) (64 * next) (omega (arith, h.0))
    (omega (arith, h.1))
value-order (integer z at) low next h = none (64 * low) (64 * next) (omega (arith, h.0, h.1))
value-order (list fs at) low next h = let parts = forms-within fs (at + 1) next h.1 in
    one NotGround at (64 * low) (64 * next) (omega (arith, h.0)) (omega arith)

values-order : (fs : FormTrees) (low next : ℕ) → RiseFrom low fs next → IsInOrder (64 * low) (values_breaks fs) (64 * next)
values-order no_form low next h = none (64 * low) (64 * next) (omega arith)
values-order (more_forms f fs) low next h = both (64 * low) (64 * h.0) (64 * next) _ _ (value-order f low h.0 h.1)
    (values-order fs h.0 next h.2)

call-order : (declared : List Declared) (found : Option ℕ) (n at : ℕ) →
    IsInOrder (64 * at) (declared_call_breaks_at declared found n at) (64 * at + 64)
call-order declared None n at = one Unknown at (64 * at) (64 * at + 64) (omega arith) (omega arith)
call-order declared (Some i) n at =
    tested (not (has_declared_arity declared i n)) Arity at (64 * at) (64 * at + 64) (omega arith) (omega arith)

ground-order : (names : List (List ℕ)) (declared : List Declared) (c : CallTree) (low next : ℕ) → c.at + 1 ≤ low →
    RiseFrom low c.rest next → IsInOrder (64 * c.at) (ground_breaks names declared c) (64 * next)
ground-order names declared c low next le h =
    both (64 * c.at) (64 * c.at + 64) (64 * next) _ _
    (call-order declared (position_of names declared c.word) (count c.rest) c.at)
    (from (64 * c.at + 64) (64 * low) (64 * next) _ (omega arith) (values-order c.rest low next h))

equality-order : (names : List (List ℕ)) (functions : List Declared) (fs : FormTrees) (at next : ℕ) → RiseFrom (at + 1) fs next →
    IsInOrder (64 * at) (place_value_breaks names functions fs at) (64 * next)
equality-order names functions (more_forms (list (more_forms (symbol text s) rest) place) (more_forms value no_form)) at next h =
    let inner = h.1.1 in
    let first = form-within (symbol text s) (place + 1) inner.0 inner.1 in
    let later = h.2 in
    let parts = forms-within rest inner.0 h.0 inner.2 in
    both (64 * at) (64 * h.0) (64 * next) _ _
    (from (64 * at) (64 * place) (64 * h.0) _ (omega (arith, h.1.0)) (ground-order names functions
    (record { word = text; rest = rest; at = place }) inner.0 h.0 (omega (arith, first.0, first.1)) inner.2))
    (up_to (64 * h.0) (64 * later.0) (64 * next) _ (omega (arith, later.2)) (value-order value h.0 later.0 later.1))
equality-order names functions (more_forms f (more_forms value no_form)) at next h = let parts =
    forms-within (more_forms f (more_forms value no_form)) (at + 1) next h in one Shape at (64 * at) (64 * next) (omega arith) (omega arith)
equality-order names functions fs at next h = let parts = forms-within fs (at + 1) next h in
    one Shape at (64 * at) (64 * next) (omega arith) (omega arith)

negation-order : (names : List (List ℕ)) (predicates : List Declared) (fs : FormTrees) (at next : ℕ) → RiseFrom (at + 1) fs next →
    IsInOrder (64 * at) (negation_breaks names predicates fs at) (64 * next)
negation-order names predicates (more_forms (list (more_forms (symbol text s) rest) fact) no_form) at next h =
    let inner = h.1.1 in
    let first = form-within (symbol text s) (fact + 1) inner.0 inner.1 in
    from (64 * at) (64 * fact) (64 * next) _ (omega (arith, h.1.0))
    (up_to (64 * fact) (64 * h.0) (64 * next) _ (omega (arith, h.2)) (ground-order names predicates
    (record { word = text; rest = rest; at = fact }) inner.0 h.0 (omega (arith, first.0, first.1)) inner.2))
negation-order names predicates (more_forms f no_form) at next h = let parts = forms-within (more_forms f no_form) (at + 1) next h in
    one Shape at (64 * at) (64 * next) (omega arith) (omega arith)
negation-order names predicates fs at next h = let parts = forms-within fs (at + 1) next h in
    one Shape at (64 * at) (64 * next) (omega arith) (omega arith)

else-order : (low high : ℕ) (xs ys : List Break) → IsInOrder low xs high → IsInOrder low ys high → IsInOrder low (breaks_or_else xs ys) high
else-order low high [] ys h i = i
else-order low high (x ∷ xs) ys h i = h

element_call-order : (names : List (List ℕ)) (d : Domain) (l : Literals) (w : ElementWord) (c : CallTree) (low next : ℕ) → c.at + 1 ≤ low →
    RiseFrom low c.rest next → RiseFrom (c.at + 1) c.rest next → IsInOrder (64 * c.at) (element_call_breaks names d l w c) (64 * next)
element_call-order names d l word.Equality c low next le h i =
    let parts = forms-within c.rest low next h in
    else-order (64 * c.at) (64 * next) _ _ (equality-order names d.functions c.rest c.at next i)
    (tested (has_other_value l.values (place_value_meant names d.functions c.rest)) TwoValues c.at (64 * c.at) (64 * next) (omega arith)
    (omega arith))
element_call-order names d l word.Negation c low next le h i =
    let parts = forms-within c.rest low next h in
    else-order (64 * c.at) (64 * next) _ _ (negation-order names d.predicates c.rest c.at next i)
    (tested (list_any (fact_eq (negation_meant names d.predicates c.rest)) l.facts) TwoValues c.at (64 * c.at) (64 * next) (omega arith)
    (omega arith))
element_call-order names d l word.Fact c low next le h i =
    let parts = forms-within c.rest low next h in
    else-order (64 * c.at) (64 * next) _ _ (ground-order names d.predicates c low next le h)
    (tested (list_any (fact_eq (fact_meant names d.predicates c)) l.nots) TwoValues c.at (64 * c.at) (64 * next) (omega arith)
    (omega arith))

element-order : (names : List (List ℕ)) (d : Domain) (s : Section) (l : Literals) (f : FormTree) (low next : ℕ) → RisesFrom low f next →
    IsInOrder (64 * low) (element_breaks names d s l f) (64 * next)
element-order names d s l (list (more_forms (symbol text t) rest) at) low next h =
    let inner = h.1 in
    let first = form-within (symbol text t) (at + 1) inner.0 inner.1 in
    from (64 * low) (64 * at) (64 * next) _ (omega (arith, h.0))
    (element_call-order names d l (element_word s text) (record { word = text; rest = rest; at = at }) inner.0 next
    (omega (arith, first.0, first.1)) inner.2 (rest-rises (list (more_forms (symbol text t) rest) at) low next h))
element-order names d s l f low next h = let within = form-within f low next h in
    one Shape (offset_of f) (64 * low) (64 * next) (omega (arith, within.0)) (omega (arith, within.1))

elements-order : (names : List (List ℕ)) (d : Domain) (s : Section) (l : Literals) (fs : FormTrees) (low next : ℕ) → RiseFrom low fs next →
    IsInOrder (64 * low) (elements_breaks names d s l fs) (64 * next)
elements-order names d s l no_form low next h = none (64 * low) (64 * next) (omega arith)
elements-order names d s l (more_forms f fs) low next h =
    both (64 * low) (64 * h.0) (64 * next) _ _ (element-order names d s l f low h.0 h.1)
    (elements-order names d s (with_element names d s l f) fs h.0 next h.2)

section-order : (names : List (List ℕ)) (d : Domain) (s : Section) (f : FormTree) (low next : ℕ) → RisesFrom low f next →
    IsInOrder (64 * low) (section_breaks names d s f) (64 * next)
section-order names d s f low next h =
    let within = form-within f low next h in
    both (64 * low) (64 * (offset_of f + 1)) (64 * next) _ _
    (tested (nat_lt 4096 (count (rest_of f))) Limit (offset_of f) (64 * low) (64 * (offset_of f + 1)) (omega (arith, within.0))
    (omega arith))
    (elements-order names d s no_literal (rest_of f) (offset_of f + 1) next (rest-rises f low next h))

sections-order : (names : List (List ℕ)) (d : Domain) (fs : FormTrees) (low next : ℕ) → RiseFrom low fs next →
    IsInOrder (64 * low) (sections_breaks names d fs) (64 * next)
sections-order names d (more_forms word (more_forms name (more_forms init (more_forms goal no_form)))) low next h =
    let first = form-within word low h.0 h.1 in
    let a = h.2 in
    let second = form-within name h.0 a.0 a.1 in
    let b = a.2 in
    let c = b.2 in
    from (64 * low) (64 * a.0) (64 * next) _ (omega (arith, first.0, first.1, second.0, second.1))
    (both (64 * a.0) (64 * b.0) (64 * next) _ _
    (section-order names d section.Init init a.0 b.0 b.1)
    (up_to (64 * b.0) (64 * c.0) (64 * next) _ (omega (arith, c.2)) (section-order names d section.Goal goal b.0 c.0 c.1)))
sections-order names d fs low next h = let parts = forms-within fs low next h in none (64 * low) (64 * next) (omega arith)

problem_form-order : (names : List (List ℕ)) (d : Domain) (f : FormTree) (low next : ℕ) → RisesFrom low f next →
    IsInOrder (64 * low) (problem_form_breaks names d f) (64 * next)
problem_form-order names d (symbol text at) low next h = one Shape at (64 * low) (64 * next) (omega (arith, h.0)) (omega (arith, h.1))
problem_form-order names d (integer z at) low next h = one Shape at (64 * low) (64 * next) (omega (arith, h.0)) (omega (arith, h.1))
problem_form-order names d (list fs at) low next h =
    let parts = forms-within fs (at + 1) next h.1 in
    either (has_problem_shape fs) (64 * low) (64 * next) _ _
    (from (64 * low) (64 * (at + 1)) (64 * next) _ (omega (arith, h.0)) (sections-order names d fs (at + 1) next h.1))
    (one Shape at (64 * low) (64 * next) (omega (arith, h.0)) (omega arith))

file-order : (names : List (List ℕ)) (d : Domain) (fs : FormTrees) (next : ℕ) → 1 ≤ next → RiseFrom 0 fs next →
    IsInOrder (64 * 0) (problem_file_breaks names d fs) (64 * next)
file-order names d no_form next le h = one Shape 0 (64 * 0) (64 * next) (omega arith) (omega arith)
file-order names d (more_forms f fs) next le h =
    both (64 * 0) (64 * h.0) (64 * next) _ _ (problem_form-order names d f 0 h.0 h.1) (second_form-order fs h.0 next h.2)

pub first-break-least : (names : List (List ℕ)) (d : Domain) (fs : FormTrees) (b : Break) → AreAsRead fs →
    first_break (problem_file_breaks names d fs) ≡ Some b → IsLeastBreak (problem_file_breaks names d fs) b
first-break-least names d fs b h is = first-least (64 * 0) (64 * 4194304) (problem_file_breaks names d fs) b
    (file-order names d fs 4194304 (omega arith) h) is
