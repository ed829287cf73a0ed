-- Values, facts and places mean something exactly where they break no rule.
use Rattle.std.proofs.Common.{◌≡◌, ℕ, List, ◌∷◌, refl, ap, ◌∙◌}
use Rattle.std.specs.Prelude.{Bool, true, false, not, Option, Some, None, option_and_then, if◌then◌else◌, unwrap_or}
use Rattle.std.specs.Option.{option_map}
use Rattle.tl_sexpr.specs.Tree.{FormTree, FormTrees, symbol, integer, list, no_form, more_forms}
use Rattle.tl_syntax.specs.declared.declared.Declared.{Declared}
use Rattle.tl_syntax.specs.declared.fact.Fact.{Fact}
use Rattle.tl_syntax.specs.declared.place_value.PlaceValue.{PlaceValue}
use Rattle.tl_syntax.specs.declared.value.Value.{Value}
use Rattle.tl_rules.specs.declared.rule.Rule.TheVariants.{NotGround, Arity}
use Rattle.tl_rules.specs.Both.{option_both}
use Rattle.tl_rules.specs.Calls.{CallTree, call_in}
use Rattle.tl_rules.specs.Parts.{is_variable, count}
use Rattle.tl_rules.specs.Rules.{breaks_if}
use Rattle.tl_rules.specs.Unbroken.{where_unbroken}
use Rattle.tl_rules.specs.Values.{value_meant, values_meant}
use Rattle.tl_rules.proofs.Unbroken.{map-unbroken, both-unbroken}
use Rattle.tl_problem.specs.Declarations.{position_of, position_meant, has_declared_arity, declared_call_breaks, declared_call_breaks_at}
use Rattle.tl_problem.specs.Facts.{ground_breaks, fact_meant, negated_breaks, negated_meant, negation_breaks, negation_meant, place_breaks}
use Rattle.tl_problem.specs.Facts.{place_meant, place_value_breaks, place_value_meant}
use Rattle.tl_problem.specs.PartialProblems.{value_meaning, values_meaning, position_for, ground_meaning, fact_meaning, negation_meaning}
use Rattle.tl_problem.specs.PartialProblems.{place_value_meaning}
use Rattle.tl_problem.specs.Values.{value_breaks, values_breaks}

value-mean : (names : List (List ℕ)) (f : FormTree) → value_meaning names f ≡ where_unbroken (value_breaks f) (value_meant names f)
value-mean names (symbol text at) = cases (is_variable text)
  where
    x : Value
    x = value_meant names (symbol text at)

    cases : (b : Bool) → (if b then None else Some x) ≡ where_unbroken (breaks_if b NotGround at) x
    cases true = refl
    cases false = refl
value-mean names (integer z at) = refl
value-mean names (list fs at) = refl

values-mean : (names : List (List ℕ)) (fs : FormTrees) → values_meaning names fs ≡ where_unbroken (values_breaks fs) (values_meant names fs)
values-mean names no_form = refl
values-mean names (more_forms f fs) =
    (λ i. option_both (λ x xs. x ∷ xs) (value-mean names f i) (values-mean names fs i))
    ∙ both-unbroken (λ x xs. x ∷ xs) (value_breaks f) (values_breaks fs) _ _

position-mean : (names : List (List ℕ)) (declared : List Declared) (c : CallTree) → position_for names declared c.word (count c.rest) ≡
    where_unbroken (declared_call_breaks names declared c) (position_meant names declared c.word)
position-mean names declared c = cases (position_of names declared c.word)
  where
    tested : (k : ℕ) (b : Bool) → (if b then Some k else None) ≡ where_unbroken (breaks_if (not b) Arity c.at) k
    tested k true = refl
    tested k false = refl

    cases : (found : Option ℕ) → option_and_then (λ k. if has_declared_arity declared k (count c.rest) then Some k else None) found ≡
        where_unbroken (declared_call_breaks_at declared found (count c.rest) c.at) (unwrap_or found 0)
    cases None = refl
    cases (Some k) = tested k (has_declared_arity declared k (count c.rest))

-- the list of this word and these elements, at this offset
abbrev call : List ℕ → FormTrees → ℕ → CallTree
call text rest at = record { word = text; rest = rest; at = at }

abbrev paired : ℕ → List Value → ℕ × List Value
paired k xs = (k, xs)

ground-mean : (names : List (List ℕ)) (declared : List Declared) (c : CallTree) →
    option_both paired (position_for names declared c.word (count c.rest)) (values_meaning names c.rest) ≡
    where_unbroken (ground_breaks names declared c) (position_meant names declared c.word, values_meant names c.rest)
ground-mean names declared c =
    (λ i. option_both paired (position-mean names declared c i) (values-mean names c.rest i))
    ∙ both-unbroken paired (declared_call_breaks names declared c) (values_breaks c.rest) _ _

pub fact-mean : (names : List (List ℕ)) (predicates : List Declared) (text : List ℕ) (i : ℕ) (rest : FormTrees) (at : ℕ) →
    fact_meaning names predicates (list (more_forms (symbol text i) rest) at) ≡
    where_unbroken (ground_breaks names predicates (record { word = text; rest = rest; at = at }))
    (fact_meant names predicates (record { word = text; rest = rest; at = at }))
fact-mean names predicates text i rest at =
    ap (λ (m : Option (ℕ × List Value)). option_map made m) (ground-mean names predicates (call text rest at))
    ∙ map-unbroken made (ground_breaks names predicates (call text rest at)) _
  where
    made : ℕ × List Value → Fact
    made p = record { pred = p.0; args = p.1 }

negated-mean : (names : List (List ℕ)) (predicates : List Declared) (f : FormTree) (at : ℕ) → fact_meaning names predicates f ≡
    where_unbroken (negated_breaks names predicates (call_in f) at) (negated_meant names predicates (call_in f))
negated-mean names predicates (symbol text i) at = refl
negated-mean names predicates (integer z i) at = refl
negated-mean names predicates (list no_form i) at = refl
negated-mean names predicates (list (more_forms (symbol text i) rest) j) at = fact-mean names predicates text i rest j
negated-mean names predicates (list (more_forms (integer z _) rest) i) at = refl
negated-mean names predicates (list (more_forms (list fs _) rest) i) at = refl

pub negation-mean : (names : List (List ℕ)) (predicates : List Declared) (fs : FormTrees) (at : ℕ) →
    negation_meaning names predicates fs ≡ where_unbroken (negation_breaks names predicates fs at) (negation_meant names predicates fs)
negation-mean names predicates no_form at = refl
negation-mean names predicates (more_forms fact no_form) at = negated-mean names predicates fact at
negation-mean names predicates (more_forms fact (more_forms f fs)) at = refl

pub place-value-mean : (names : List (List ℕ)) (functions : List Declared) (fs : FormTrees) (at : ℕ) →
    place_value_meaning names functions fs ≡
    where_unbroken (place_value_breaks names functions fs at) (place_value_meant names functions fs)
place-value-mean names functions no_form at = refl
place-value-mean names functions (more_forms place no_form) at = refl
place-value-mean names functions (more_forms place (more_forms value no_form)) at = cases place
  where
    made : ℕ × List Value → Value → PlaceValue
    made p x = record { fun = p.0; args = p.1; value = x }

    cases : (f : FormTree) → option_both made (ground_meaning names functions f) (value_meaning names value) ≡
        where_unbroken (place_breaks names functions (call_in f) value at) (place_meant names functions (call_in f) value)
    cases (symbol text i) = refl
    cases (integer z i) = refl
    cases (list no_form i) = refl
    cases (list (more_forms (symbol text _) rest) i) =
        (λ j. option_both made (ground-mean names functions (call text rest i) j) (value-mean names value j))
        ∙ both-unbroken made (ground_breaks names functions (call text rest i)) (value_breaks value) _ _
    cases (list (more_forms (integer z _) rest) i) = refl
    cases (list (more_forms (list fs _) rest) i) = refl
place-value-mean names functions (more_forms place (more_forms value (more_forms f fs))) at = refl
