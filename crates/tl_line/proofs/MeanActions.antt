-- Actions mean something exactly where they break no rule.
use Rattle.std.proofs.Common.{◌≡◌, ℕ, ◌+◌, List, [], ◌∷◌, ◌++◌, refl, ap, ◌∙◌}
use Rattle.std.specs.Prelude.{Bool, true, false, ◌||◌, not, length, nat_lt, Option, Some, None, is_some, option_and_then, if◌then◌else◌}
use Rattle.std.specs.Prelude.{unwrap_or}
use Rattle.std.specs.Option.{option_map}
use Rattle.tl_sexpr.specs.Tree.{FormTree, FormTrees, symbol, integer, list, no_form, more_forms}
use Rattle.tl_syntax.specs.declared.action.Action.{Action}
use Rattle.tl_syntax.specs.declared.operator.Operator.{Operator}
use Rattle.tl_syntax.specs.declared.value.Value.TheVariants.{Sym}
use Rattle.tl_syntax.specs.Texts.{number_of}
use Rattle.tl_rules.specs.declared.rule.Rule.TheVariants.{Limit, NotAValue, ArgumentCount}
use Rattle.tl_rules.specs.Both.{option_both}
use Rattle.tl_rules.specs.Parts.{is_variable, is_call, count, offset_of}
use Rattle.tl_rules.specs.Rules.{Break, breaks_if}
use Rattle.tl_rules.specs.Unbroken.{where_unbroken}
use Rattle.tl_rules.specs.Values.{value_meant, values_meant}
use Rattle.tl_rules.proofs.Unbroken.{both-unbroken}
use Rattle.tl_line.specs.Actions.{operator_at, has_parameters, named_operator_breaks, named_operator_breaks_at, named_value_breaks}
use Rattle.tl_line.specs.Actions.{named_values_breaks, action_breaks}
use Rattle.tl_line.specs.ActionLists.{placed_breaks, actions_breaks}
use Rattle.tl_line.specs.MeaningOfActions.{action_meant, actions_meant}
use Rattle.tl_line.specs.PartialActions.{named_value_meaning, named_values_meaning, operator_for, action_meaning, actions_meaning}

named-value-mean : (names : List (List ℕ)) (f : FormTree) → named_value_meaning names f ≡
    where_unbroken (named_value_breaks names f) (value_meant names f)
named-value-mean names (symbol text at) = cases (is_variable text) (number_of names text)
  where
    cases : (b : Bool) (n : Option ℕ) → (if b then None else option_map (λ i. Sym i) n) ≡
        where_unbroken (breaks_if (b || not (is_some n)) NotAValue at) (Sym (unwrap_or n (length names)))
    cases true n = refl
    cases false None = refl
    cases false (Some i) = refl
named-value-mean names (integer z at) = refl
named-value-mean names (list fs at) = refl

named-values-mean : (names : List (List ℕ)) (fs : FormTrees) → named_values_meaning names fs ≡
    where_unbroken (named_values_breaks names fs) (values_meant names fs)
named-values-mean names no_form = refl
named-values-mean names (more_forms f fs) =
    (λ i. option_both (λ x xs. x ∷ xs) (named-value-mean names f i) (named-values-mean names fs i))
    ∙ both-unbroken (λ x xs. x ∷ xs) (named_value_breaks names f) (named_values_breaks names fs) _ _

operator-mean : (names : List (List ℕ)) (operators : List Operator) (text : List ℕ) (n at : ℕ) → operator_for names operators text n ≡
    where_unbroken (named_operator_breaks names operators text n at) (unwrap_or (operator_at names operators text) 0)
operator-mean names operators text n at = cases (operator_at names operators text)
  where
    tested : (op : ℕ) (b : Bool) → (if b then Some op else None) ≡ where_unbroken (breaks_if (not b) ArgumentCount at) op
    tested op true = refl
    tested op false = refl

    cases : (found : Option ℕ) → option_and_then (λ op. if has_parameters operators op n then Some op else None) found ≡
        where_unbroken (named_operator_breaks_at operators found n at) (unwrap_or found 0)
    cases None = refl
    cases (Some op) = tested op (has_parameters operators op n)

pub action-mean : (names : List (List ℕ)) (operators : List Operator) (f : FormTree) → action_meaning names operators f ≡
    where_unbroken (action_breaks names operators f) (action_meant names operators f)
unfolding action_meaning action_breaks action_meant
action-mean names operators (symbol text at) = refl
action-mean names operators (integer z at) = refl
action-mean names operators (list no_form at) = refl
action-mean names operators (list (more_forms (integer z _) rest) at) = refl
action-mean names operators (list (more_forms (list fs _) rest) at) = refl
action-mean names operators (list (more_forms (symbol text _) rest) at) =
    (λ i. option_both (λ op xs. record { op = op; args = xs }) (operator-mean names operators text (count rest) at i)
    (named-values-mean names rest i))
    ∙ both-unbroken (λ op xs. record { op = op; args = xs }) (named_operator_breaks names operators text (count rest) at)
    (named_values_breaks names rest) _ _

-- what is no list that begins with a symbol means no action
pub uncalled-mean : (names : List (List ℕ)) (operators : List Operator) (f : FormTree) → is_call f ≡ false →
    action_meaning names operators f ≡ None
unfolding action_meaning
uncalled-mean names operators (symbol text at) e = refl
uncalled-mean names operators (integer z at) e = refl
uncalled-mean names operators (list no_form at) e = refl
uncalled-mean names operators (list (more_forms (symbol text _) rest) at) e = absurd (cc)
uncalled-mean names operators (list (more_forms (integer z _) rest) at) e = refl
uncalled-mean names operators (list (more_forms (list fs _) rest) at) e = refl

-- where the limit stands among the rules says nothing here
placed-mean : (names : List (List ℕ)) (operators : List Operator) (before : ℕ) (f : FormTree) →
    (if nat_lt before 100000 then action_meaning names operators f else None) ≡
    where_unbroken (placed_breaks names operators before f) (action_meant names operators f)
placed-mean names operators before f =
    ap (λ (m : Option Action). if nat_lt before 100000 then m else None) (action-mean names operators f)
    ∙ cases (is_call f) (nat_lt before 100000) (action_breaks names operators f)
  where
    x : Action
    x = action_meant names operators f

    cases : (c t : Bool) (xs : List Break) → (if t then where_unbroken xs x else None) ≡
        where_unbroken (if c then breaks_if (not t) Limit (offset_of f) ++ xs else xs ++ breaks_if (not t) Limit (offset_of f)) x
    cases true true xs = refl
    cases true false xs = refl
    cases false true [] = refl
    cases false true (b ∷ bs) = refl
    cases false false [] = refl
    cases false false (b ∷ bs) = refl

pub actions-mean : (names : List (List ℕ)) (operators : List Operator) (before : ℕ) (fs : FormTrees) →
    actions_meaning names operators before fs ≡ where_unbroken (actions_breaks names operators before fs) (actions_meant names operators fs)
actions-mean names operators before no_form = refl
actions-mean names operators before (more_forms f fs) =
    (λ i. option_both (λ x xs. x ∷ xs) (placed-mean names operators before f i) (actions-mean names operators (before + 1) fs i))
    ∙ both-unbroken (λ x xs. x ∷ xs) (placed_breaks names operators before f) (actions_breaks names operators (before + 1) fs) _ _
