-- What a plan file breaks and means depends on the names and the numbers of parameters of the operators alone.
use Rattle.std.proofs.Common.{◌≡◌, ℕ, ◌+◌, List, [], ◌∷◌, ◌++◌, false, cond, not, map, length, Option, Some, None, refl, sym, ap, ◌∙◌}
use Rattle.std.specs.Prelude.{◌==◌, if◌then◌else◌, slice_get, nat_lt, option_and_then, unwrap_or}
use Rattle.std.specs.List.{position, prefix_len}
use Rattle.std.specs.Option.{option_map, option_map_or}
use Rattle.std.proofs.lemmas.List.{length-map}
use Rattle.std.proofs.lemmas.Option.{slice_get-map}
use Rattle.tl_sexpr.specs.Tree.{FormTree, FormTrees, symbol, integer, list, no_form, more_forms}
use Rattle.tl_syntax.specs.declared.operator.Operator.{Operator}
use Rattle.tl_syntax.specs.Texts.{number_of}
use Rattle.tl_rules.specs.declared.rule.Rule.TheVariants.{ArgumentCount}
use Rattle.tl_rules.specs.Rules.{breaks_if}
use Rattle.tl_rules.specs.Parts.{offset_of, is_call, count}
use Rattle.tl_line.specs.Actions.{operator_at, has_parameters, named_operator_breaks_at, named_values_breaks, action_breaks}
use Rattle.tl_rules.specs.Values.{values_meant}
use Rattle.tl_line.specs.MeaningOfActions.{action_meant, actions_meant}
use Rattle.tl_line.specs.ActionLists.{limit_breaks, placed_breaks, actions_breaks}
use Rattle.tl_text.specs.Plans.{plan_breaks}
use Rattle.tl_text.specs.MeaningOfPlans.{plan_meant}

-- the name of an operator, and how many parameters it has
abbrev pub Head : Type 0
Head = ℕ × ℕ

abbrev pub head_of : Operator → Head
head_of o = (o.name, length o.params)

-- how many heads stand before the first of this name
first_head : (n : ℕ) (os : List Operator) → prefix_len (λ (o : Operator). not (o.name == n)) os ≡
    prefix_len (λ (h : Head). not (h.0 == n)) (map head_of os)
first_head n [] = refl
first_head n (o ∷ os) = ap (λ (k : ℕ). cond (not (o.name == n)) (1 + k) 0) (first_head n os)

head_at : (n : ℕ) (os : List Operator) → position (λ (o : Operator). o.name == n) os ≡ position (λ (h : Head). h.0 == n) (map head_of os)
head_at n os =
    let before = first_head n os in
    let all = sym (length-map os head_of) in
    λ i. cond (nat_lt (before i) (all i)) (Some (before i)) None

head_has : (x : Option Operator) (n : ℕ) → option_map_or (λ (o : Operator). length o.params == n) x false ≡
    option_map_or (λ (h : Head). h.1 == n) (option_map head_of x) false
head_has None n = refl
head_has (Some o) n = refl

head_takes : (os : List Operator) (op n : ℕ) → has_parameters os op n ≡
    option_map_or (λ (h : Head). h.1 == n) (slice_get (map head_of os) op) false
head_takes os op n = head_has (slice_get os op) n ∙ ap (λ (x : Option Head). option_map_or (λ (h : Head). h.1 == n) x false)
    (sym (slice_get-map head_of os op))

module _ (names : List (List ℕ)) (os us : List Operator) (alike : map head_of os ≡ map head_of us) where
  same_place : (n : ℕ) → position (λ (o : Operator). o.name == n) os ≡ position (λ (o : Operator). o.name == n) us
  same_place n = head_at n os ∙ ap (position (λ (h : Head). h.0 == n)) alike ∙ sym (head_at n us)

  pub same_operator : (text : List ℕ) → operator_at names os text ≡ operator_at names us text
  same_operator text = λ i. option_and_then (λ n. same_place n i) (number_of names text)

  same_takes : (op n : ℕ) → has_parameters os op n ≡ has_parameters us op n
  same_takes op n = head_takes os op n ∙ ap (λ (hs : List Head). option_map_or (λ (h : Head). h.1 == n) (slice_get hs op) false) alike ∙
      sym (head_takes us op n)

  same_call : (found : Option ℕ) (n at : ℕ) → named_operator_breaks_at os found n at ≡ named_operator_breaks_at us found n at
  same_call None n at = refl
  same_call (Some op) n at =
      let takes = same_takes op n in
      λ i. breaks_if (not (takes i)) ArgumentCount at

  pub same_action : (f : FormTree) → action_breaks names os f ≡ action_breaks names us f
  unfolding action_breaks
  same_action (symbol text at) = refl
  same_action (integer z at) = refl
  same_action (list no_form at) = refl
  same_action (list (more_forms (symbol text n) rest) at) =
      let found = same_operator text in
      let call = same_call (operator_at names os text) (count rest) at ∙
      ap (λ (x : Option ℕ). named_operator_breaks_at us x (count rest) at) found in
      λ i. call i ++ named_values_breaks names rest
  same_action (list (more_forms (integer z n) rest) at) = refl
  same_action (list (more_forms (list fs n) rest) at) = refl

  same_placed : (before : ℕ) (f : FormTree) → placed_breaks names os before f ≡ placed_breaks names us before f
  same_placed before f =
      let action = same_action f in
      λ i. if is_call f then limit_breaks before (offset_of f) ++ action i else action i ++ limit_breaks before (offset_of f)

  pub same_actions : (before : ℕ) (fs : FormTrees) → actions_breaks names os before fs ≡ actions_breaks names us before fs
  same_actions before no_form = refl
  same_actions before (more_forms f fs) =
      let first = same_placed before f in
      let others = same_actions (before + 1) fs in
      λ i. first i ++ others i

  pub same_meaning : (f : FormTree) → action_meant names os f ≡ action_meant names us f
  unfolding action_meant
  same_meaning (symbol text at) = refl
  same_meaning (integer z at) = refl
  same_meaning (list no_form at) = refl
  same_meaning (list (more_forms (symbol text n) rest) at) =
      let found = same_operator text in
      λ i. record { op = unwrap_or (found i) 0; args = values_meant names rest }
  same_meaning (list (more_forms (integer z n) rest) at) = refl
  same_meaning (list (more_forms (list fs n) rest) at) = refl

  pub same_actions_meant : (fs : FormTrees) → actions_meant names os fs ≡ actions_meant names us fs
  same_actions_meant no_form = refl
  same_actions_meant (more_forms f fs) =
      let first = same_meaning f in
      let others = same_actions_meant fs in
      λ i. first i ∷ others i

-- the same rules are broken
pub same_plan_breaks : (names : List (List ℕ)) (os us : List Operator) (fs : FormTrees) → map head_of os ≡ map head_of us →
    plan_breaks names os fs ≡ plan_breaks names us fs
same_plan_breaks names os us fs alike = same_actions names os us alike 0 fs

-- and the same plan is meant
pub same_plan_meant : (names : List (List ℕ)) (os us : List Operator) (fs : FormTrees) → map head_of os ≡ map head_of us →
    plan_meant names os fs ≡ plan_meant names us fs
same_plan_meant names os us fs alike = same_actions_meant names os us alike fs
