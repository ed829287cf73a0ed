-- An action that breaks nothing is named.
use Rattle.std.proofs.Common.{◌≡◌, ℕ, ◌<◌, List, [], ◌∷◌, ◌++◌, Bool, true, false, length, refl, arith, Some, None, map, sym, subst, inl}
use Rattle.std.proofs.Common.{inr}
use Rattle.std.specs.Prelude.{Option, ◌||◌, ◌==◌, not, is_some, slice_get, unwrap_or}
use Rattle.std.specs.Option.{option_map_or}
use Rattle.std.specs.Str.{bytes_eq}
use Rattle.std.proofs.lemmas.Bool.{cases_Bool, eqb-true}
use Rattle.std.proofs.lemmas.List.Quantifiers.{position-Some}
use Rattle.std.proofs.lemmas.Option.{slice_get-map}
use Rattle.tl_sexpr.specs.Tree.{FormTree, FormTrees, symbol, integer, list, no_form, more_forms}
use Rattle.tl_syntax.specs.declared.operator.Operator.{Operator}
use Rattle.tl_syntax.specs.Lists.{Each}
use Rattle.tl_syntax.specs.Named.{ValueIsNamed}
use Rattle.tl_syntax.specs.Signature.{Takes}
use Rattle.tl_syntax.specs.Texts.{number_of}
use Rattle.tl_rules.specs.declared.rule.Rule.TheVariants.{ArgumentCount, NotAValue}
use Rattle.tl_rules.specs.Parts.{is_variable, count}
use Rattle.tl_rules.specs.Rules.{Break, breaks_if}
use Rattle.tl_line.specs.Actions.{operator_at, named_operator_breaks_at, named_value_breaks, named_values_breaks, action_breaks}
use Rattle.tl_rules.specs.Values.{value_meant, values_meant}
use Rattle.tl_line.specs.MeaningOfActions.{action_meant}
use Rattle.tl_line.specs.NamedActions.{ActionIsNamed}

some≢none : (b : Break) (bs : List Break) → b ∷ bs ≡ [] → ⊥
some≢none b bs e = cc

none-before : (xs ys : List Break) → xs ++ ys ≡ [] → xs ≡ []
none-before [] ys h = refl
none-before (x ∷ xs) ys h = cc

none-after : (xs ys : List Break) → xs ++ ys ≡ [] → ys ≡ []
none-after [] ys h = h
none-after (x ∷ xs) ys h = cc

symbol-named : (names : List (List ℕ)) (text : List ℕ) (at : ℕ) (variable : Bool) (found : Option ℕ) → number_of names text ≡ found →
    breaks_if (variable || not (is_some found)) NotAValue at ≡ [] → unwrap_or found (length names) < length names
symbol-named names text at true found is h = cc
symbol-named names text at false None is h = cc
symbol-named names text at false (Some n) is h = let at-place = position-Some (bytes_eq text) names n [] is in at-place.0

value-named : (names : List (List ℕ)) (f : FormTree) → named_value_breaks names f ≡ [] → ValueIsNamed (length names) (value_meant names f)
value-named names (symbol text at) h = symbol-named names text at (is_variable text) (number_of names text) refl h
value-named names (integer z at) h = tt
value-named names (list fs at) h = cc

values-named : (names : List (List ℕ)) (fs : FormTrees) → named_values_breaks names fs ≡ [] →
    Each (ValueIsNamed (length names)) (values_meant names fs)
values-named names no_form h = tt
values-named names (more_forms f fs) h = (
  value-named names f (none-before (named_value_breaks names f) (named_values_breaks names fs) h),
  values-named names fs (none-after (named_value_breaks names f) (named_values_breaks names fs) h),
)

count-values : (names : List (List ℕ)) (fs : FormTrees) → length (values_meant names fs) ≡ count fs
count-values names no_form = refl
count-values names (more_forms f fs) = omega (arith, count-values names fs)

counted : (o : Operator) (n at : ℕ) → breaks_if (not (length o.params == n)) ArgumentCount at ≡ [] → length o.params ≡ n
counted o n at h = elim (cases_Bool (length o.params == n)) [
  | inl is ↦ eqb-true (length o.params) n is
  | inr is ↦ let P : Bool → Type 0 = λ b. breaks_if (not b) ArgumentCount at ≡ [] in let broken = subst P is h in
      absurd (some≢none _ [] broken)
]

takes-parameters : (operators : List Operator) (op n at : ℕ) (found : Option Operator) → slice_get operators op ≡ found →
    breaks_if (not (option_map_or (λ o. length o.params == n) found false)) ArgumentCount at ≡ [] →
    Takes (map (λ o. length o.params) operators) op n
takes-parameters operators op n at None is h = cc
takes-parameters operators op n at (Some o) is h = rw (slice_get-map (λ o. length o.params) operators op, is, counted o n at h) refl

takes-called : (operators : List Operator) (found : Option ℕ) (n at : ℕ) → named_operator_breaks_at operators found n at ≡ [] →
    Takes (map (λ o. length o.params) operators) (unwrap_or found 0) n
takes-called operators None n at h = cc
takes-called operators (Some op) n at h = takes-parameters operators op n at (slice_get operators op) refl h

pub action-named : (names : List (List ℕ)) (operators : List Operator) (f : FormTree) → action_breaks names operators f ≡ [] →
    ActionIsNamed names operators (action_meant names operators f)
unfolding action_breaks action_meant
action-named names operators (list (more_forms (symbol text s) rest) at) h =
    let found = operator_at names operators text in
    let before = named_operator_breaks_at operators found (count rest) at in
    let T : ℕ → Type 0 = λ n. Takes (map (λ o. length o.params) operators) (unwrap_or found 0) n in
    record {
      takes = subst T (sym (count-values names rest)) (takes-called operators found (count rest) at
          (none-before before (named_values_breaks names rest) h));
      named = values-named names rest (none-after before (named_values_breaks names rest) h);
    }
action-named names operators f h = absurd (some≢none _ [] h)
