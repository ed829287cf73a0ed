-- Heads that break nothing: a name among the names, and parameters in the slots 0, 1 and on.
use Rattle.std.proofs.Common.{◌≡◌, ◌<◌, ◌≤◌, ◌+◌, ℕ, zero, suc, List, [], ◌∷◌, ◌++◌, Bool, true, false, not, length, Some, sym, ◌∙◌, subst}
use Rattle.std.proofs.Common.{arith, append_assoc, length-append}
use Rattle.std.specs.Prelude.{is_some, slice_get}
use Rattle.std.specs.List.{list_any}
use Rattle.std.specs.Str.{bytes_eq}
use Rattle.std.proofs.lemmas.Bool.{and_parts, not-true, ltb-false}
use Rattle.std.proofs.lemmas.Option.{none-some, same_Some}
use Rattle.tl_sexpr.specs.Tree.{FormTree, FormTrees, symbol, integer, list, no_form, more_forms}
use Rattle.tl_syntax.specs.declared.variable.Var.{Var}
use Rattle.tl_syntax.specs.FreeVariables.{is_slot_in, slots_of, InScope}
use Rattle.tl_syntax.specs.Kept.{ParametersKeep}
use Rattle.tl_syntax.specs.Lists.{Each}
use Rattle.tl_syntax.proofs.ListLaws.{Each-over}
use Rattle.tl_rules.specs.declared.rule.Rule.TheVariants.{Shape, Twice, NotInBound, Limit}
use Rattle.tl_rules.specs.Named.{HasNames, HaveNames}
use Rattle.tl_rules.specs.Parts.{is_variable, count, is_list, is_name, are_variables, texts_of, rest_of}
use Rattle.tl_rules.specs.Rules.{breaks_if}
use Rattle.tl_rules.specs.Symbols.{number_in}
use Rattle.tl_formulas.specs.declared.signature.NameSignature.{NameSignature}
use Rattle.tl_formulas.specs.Signatures.{Scope, slot_of}
use Rattle.tl_formulas.specs.MeaningOfFormulas.{variables_from}
use Rattle.tl_formulas.proofs.KeepsLists.{none-parts, test-fails, test-passes, Each-implies}
use Rattle.tl_formulas.proofs.KeepsCalls.{NamesOnly}
use Rattle.tl_formulas.proofs.KeepsStands.{IsVariable}
use Rattle.tl_formulas.proofs.KeepsVariables.{slots-below, slots-cover, length-variables, variables-named, texts-have, texts-count}
use Rattle.tl_formulas.proofs.KeepsVariables.{slot-after, not-in-scope}
use Rattle.tl_formulas.proofs.KeepsFormulas.{IsPlace}
use Rattle.tl_domain.specs.Operators.{has_head_shape, has_more, parameters_breaks, head_name_breaks, head_parts_breaks, head_list_breaks}
use Rattle.tl_domain.specs.Operators.{head_breaks, parameters_of, name_in_head}

-- variables from a slot on have the slots after it one by one
slots-counted : (names texts : List (List ℕ)) (base k m : ℕ) → slice_get (slots_of (variables_from names base texts)) k ≡ Some m → m ≡
    base + k
slots-counted names [] base k m at = absurd (none-some m at)
slots-counted names (text ∷ texts) base zero m at = let same = same_Some base m at in omega arith
slots-counted names (text ∷ texts) base (suc k) m at = omega (arith, slots-counted names texts (base + 1) k m at)

-- what a head has that breaks nothing
pub record HeadKeeps (names : List (List ℕ)) (most : ℕ) (is_old occurs : List ℕ → Bool) (head : FormTree) : Type 0 where
  pub name : list_any (bytes_eq (name_in_head head)) names ≡ true
  pub plain : is_variable (name_in_head head) ≡ false
  pub has : HaveNames names (rest_of head)
  pub variables : are_variables (rest_of head) ≡ true
  pub few : count (rest_of head) ≤ most
  pub fresh : parameters_breaks occurs [] (rest_of head) ≡ []

pub head-keeps : (names : List (List ℕ)) (most : ℕ) (is_old occurs : List ℕ → Bool) (head : FormTree) → is_list head ≡ true →
    HasNames names head → head_breaks most is_old occurs head ≡ [] → HeadKeeps names most is_old occurs head
head-keeps names most is_old occurs (symbol text at) shape has none = cc
head-keeps names most is_old occurs (integer z at) shape has none = cc
head-keeps names most is_old occurs (list fs at) shape has none =
    let parts = none-parts (head_list_breaks most (list fs at)) (head_parts_breaks is_old occurs fs) none in
    let own = none-parts (breaks_if (not (has_head_shape fs)) Shape at) (breaks_if (has_more most fs) Limit at) parts.0 in
    elements fs has (test-passes (has_head_shape fs) Shape at own.0) (test-fails (has_more most fs) Limit at own.1) parts.1
  where
    elements : (es : FormTrees) → HaveNames names es → has_head_shape es ≡ true → has_more most es ≡ false →
        head_parts_breaks is_old occurs es ≡ [] → HeadKeeps names most is_old occurs (list es at)
    elements no_form own_names right few later = cc
    elements (more_forms (integer z s) variables) own_names right few later = cc
    elements (more_forms (list gs s) variables) own_names right few later = cc
    elements (more_forms (symbol text s) variables) own_names right few later =
        let shapes = and_parts (is_name (symbol text s)) (are_variables variables) right in
        record {
          name = own_names.0;
          plain = not-true (is_variable text) shapes.0;
          has = own_names.1;
          variables = shapes.1;
          few = ltb-false most (count variables) few;
          fresh = (none-parts (head_name_breaks is_old (symbol text s)) (parameters_breaks occurs [] variables) later).1;
        }

-- the parameters of a head
pub parameters-keep : (names : List (List ℕ)) (most : ℕ) (is_old occurs : List ℕ → Bool) (head : FormTree) →
    HeadKeeps names most is_old occurs head → ParametersKeep (length names) most (variables_from names 0 (parameters_of head))
parameters-keep names most is_old occurs head h = record {
  named = variables-named names (parameters_of head) 0 (texts-have names (rest_of head) h.has);
  few = omega (arith, length-variables names (parameters_of head) 0, texts-count (rest_of head) h.variables, h.few);
  counted = λ k m at. omega (arith, slots-counted names (parameters_of head) 0 k m at);
}

-- the place of what stands below a head
pub head-place : (names : List (List ℕ)) (most : ℕ) (is_old occurs : List ℕ → Bool) (g : NameSignature) (head : FormTree) → most ≤ 32 →
    NamesOnly g → HeadKeeps names most is_old occurs head → IsPlace g (slots_of (variables_from names 0 (parameters_of head)))
    (parameters_of head)
head-place names most is_old occurs g head le only h = record {
  few = omega (arith, texts-count (rest_of head) h.variables, h.few);
  inside = (Each-over (λ q. q < length (parameters_of head)) (λ v. v.slot) (variables_from names 0 (parameters_of head))).1
      (slots-below names (parameters_of head) 0 (length (parameters_of head)) (omega arith));
  only = only;
}

-- slots below the number of parameters are in their scope
pub in-scope : (names : List (List ℕ)) (scope : Scope) (qs : List ℕ) → Each (λ q. q < length scope) qs →
    InScope (slots_of (variables_from names 0 scope)) qs
in-scope names scope qs h = Each-implies (λ q. q < length scope) (λ q. is_slot_in (slots_of (variables_from names 0 scope)) q ≡ true)
    (λ q lt. slots-cover names scope 0 q (omega arith) (omega arith)) qs h

-- each parameter is a variable of the scope that occurs where it should
pub parameters-occur : (names : List (List ℕ)) (occurs : List ℕ → Bool) (P : Var → Type 0) (earlier : Scope) (fs : FormTrees)
    (all : Scope) → all ≡ earlier ++ texts_of fs → are_variables fs ≡ true → parameters_breaks occurs earlier fs ≡ []
    → ((text : List ℕ) (v : Var) → IsVariable all text v → occurs text ≡ true → P v) →
    Each P (variables_from names (length earlier) (texts_of fs))
parameters-occur names occurs P earlier no_form all is are none step = tt
parameters-occur names occurs P earlier (more_forms (symbol text at) fs) all is are none step =
    let variables = and_parts (is_variable text) (are_variables fs) are in
    let parts = none-parts (breaks_if (is_some (slot_of earlier text)) Twice at) _ none in
    let later = none-parts (breaks_if (not (occurs text)) NotInBound at) _ parts.1 in
    let slot : slot_of all text ≡ Some (length earlier) = rw is (slot-after earlier (texts_of fs) text
    (not-in-scope earlier text (test-fails (is_some (slot_of earlier text)) Twice at parts.0))) in
    let next : length (earlier ++ text ∷ []) ≡ length earlier + 1 = omega (arith, length-append earlier (text ∷ [])) in (
      step text (record { slot = length earlier; name = number_in names text }) (record { variable = variables.0; slot = slot })
          (test-passes (occurs text) NotInBound at later.0),
      subst (λ (n : ℕ). Each P (variables_from names n (texts_of fs))) next
          (parameters-occur names occurs P (earlier ++ text ∷ []) fs all
          (is ∙ sym (append_assoc earlier (text ∷ []) (texts_of fs))) variables.1 later.1 step),
    )
parameters-occur names occurs P earlier (more_forms (integer z at) fs) all is are none step = cc
parameters-occur names occurs P earlier (more_forms (list gs at) fs) all is are none step = cc
