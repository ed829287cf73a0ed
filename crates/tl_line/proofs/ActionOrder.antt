-- The order of what actions break.
use Rattle.std.proofs.Common.{◌≡◌, ℕ, ◌+◌, ◌*◌, ◌≤◌, List, [], ◌∷◌, true, false, refl, arith, Some, None, subst, sym, inl, inr}
use Rattle.std.proofs.lemmas.Bool.{cases_Bool}
use Rattle.std.specs.Prelude.{Option, Result, Ok, Err, IfErr, ◌||◌, not, is_some}
use Rattle.tl_sexpr.specs.Tree.{FormTree, FormTrees, symbol, integer, list, no_form, more_forms}
use Rattle.tl_sexpr.specs.Offsets.{RisesFrom, RiseFrom}
use Rattle.tl_syntax.specs.declared.action.Action.{Action}
use Rattle.tl_syntax.specs.declared.operator.Operator.{Operator}
use Rattle.tl_syntax.specs.Texts.{number_of}
use Rattle.tl_rules.specs.declared.rule.Rule.TheVariants.{Shape, NoOperator, ArgumentCount, NotAValue}
use Rattle.tl_rules.specs.Parts.{is_variable, offset_of, count, is_call}
use Rattle.tl_rules.specs.Rules.{Break}
use Rattle.tl_rules.specs.declared.rule.FormFault.{FormFault}
use Rattle.tl_rules.specs.declared.rule.FormFault.TheVariants.{Breaks, NoMemory}
use Rattle.tl_rules.specs.Reads.{Reads, IsLeastFault}
use Rattle.tl_rules.proofs.Offsets.{form-within, forms-within}
use Rattle.tl_rules.proofs.Order.{IsInOrder, from, both, none, one, tested, first-least}
use Rattle.tl_line.specs.MeaningOfActions.{action_meant}
use Rattle.tl_line.specs.Actions.{operator_at, has_parameters, named_operator_breaks_at, named_value_breaks, named_values_breaks}
use Rattle.tl_line.specs.Actions.{action_breaks}

operator-order : (operators : List Operator) (found : Option ℕ) (n at low high : ℕ) → low ≤ 64 * at + 30 → 64 * at + 31 ≤ high →
    IsInOrder low (named_operator_breaks_at operators found n at) high
operator-order operators None n at low high before after = one NoOperator at low high (omega arith) (omega arith)
operator-order operators (Some op) n at low high before after = tested (not (has_parameters operators op n)) ArgumentCount at low high
    (omega arith) (omega arith)

value-order : (names : List (List ℕ)) (f : FormTree) (low next : ℕ) → RisesFrom low f next →
    IsInOrder (64 * low) (named_value_breaks names f) (64 * next)
value-order names (symbol text at) low next h = tested (is_variable text || not (is_some (number_of names text))) NotAValue at (64 * low)
    (64 * next) (omega (arith, h.0)) (omega (arith, h.1))
value-order names (integer z at) low next h = none (64 * low) (64 * next) (omega (arith, h.0, h.1))
value-order names (list fs at) low next h = let parts = forms-within fs (at + 1) next h.1 in
    one NotAValue at (64 * low) (64 * next) (omega (arith, h.0)) (omega arith)

values-order : (names : List (List ℕ)) (fs : FormTrees) (low next : ℕ) → RiseFrom low fs next →
    IsInOrder (64 * low) (named_values_breaks names fs) (64 * next)
values-order names no_form low next h = none (64 * low) (64 * next) (omega arith)
values-order names (more_forms f fs) low next h =
    both (64 * low) (64 * h.0) (64 * next) _ _ (value-order names f low h.0 h.1) (values-order names fs h.0 next h.2)

-- what a list breaks that begins with a symbol: rules on its operator, and what its arguments break
pub call-order : (names : List (List ℕ)) (operators : List Operator) (f : FormTree) (low next : ℕ) → is_call f ≡ true →
    RisesFrom low f next → IsInOrder (64 * offset_of f + 30) (action_breaks names operators f) (64 * next)
unfolding action_breaks
call-order names operators (list (more_forms (symbol text s) rest) at) low next call h =
    let elements = h.1 in
    let first = form-within (symbol text s) (at + 1) elements.0 elements.1 in
    both (64 * at + 30) (64 * elements.0) (64 * next) _ _
    (operator-order operators (operator_at names operators text) (count rest) at (64 * at + 30) (64 * elements.0) (omega arith)
    (omega (arith, first.0, first.1)))
    (values-order names rest elements.0 next elements.2)
call-order names operators f low next call h = cc

-- any other form breaks the rule on its shape alone
pub action-shape : (names : List (List ℕ)) (operators : List Operator) (f : FormTree) → is_call f ≡ false →
    action_breaks names operators f ≡ (Shape, offset_of f) ∷ []
unfolding action_breaks
action-shape names operators (list (more_forms (symbol text s) rest) at) other = cc
action-shape names operators f other = refl

-- what a form breaks in the role of an action
pub action-order : (names : List (List ℕ)) (operators : List Operator) (f : FormTree) (low next : ℕ) → RisesFrom low f next →
    IsInOrder (64 * offset_of f) (action_breaks names operators f) (64 * next)
action-order names operators f low next h =
    let at = offset_of f in
    let within = form-within f low next h in
    elim (cases_Bool (is_call f)) [
      | inl is ↦ from (64 * at) (64 * at + 30) (64 * next) _ (omega arith) (call-order names operators f low next is h)
      | inr is ↦
          let P : List Break → Type 0 = λ bs. IsInOrder (64 * at) bs (64 * next) in
          subst P (sym (action-shape names operators f is)) (one Shape at (64 * at) (64 * next) (omega arith) (omega (arith, within.1)))
    ]

-- the first break of an action is the least one
pub least-fault : (names : List (List ℕ)) (operators : List Operator) (f : FormTree) (low next : ℕ) (r : Result Action FormFault) →
    Reads (λ (x : Action). x) r (action_breaks names operators f) (action_meant names operators f) → RisesFrom low f next →
    IfErr r (IsLeastFault (action_breaks names operators f))
least-fault names operators f low next (Ok a) h rises = tt
least-fault names operators f low next (Err (Breaks broken at)) h rises =
    first-least (64 * offset_of f) (64 * next) (action_breaks names operators f) (broken, at)
    (action-order names operators f low next rises) h
least-fault names operators f low next (Err NoMemory) h rises = tt
