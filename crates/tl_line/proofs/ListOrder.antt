-- The order of what actions break one after the other.
use Rattle.std.proofs.Common.{ℕ, ◌+◌, ◌*◌, List, [], ◌∷◌, ◌++◌, Bool, arith, subst, sym, inl, inr}
use Rattle.std.specs.Prelude.{nat_lt, not, if◌then◌else◌}
use Rattle.std.proofs.lemmas.Bool.{cases_Bool}
use Rattle.tl_sexpr.specs.Tree.{FormTree, FormTrees, no_form, more_forms}
use Rattle.tl_sexpr.specs.Offsets.{RisesFrom, RiseFrom}
use Rattle.tl_syntax.specs.declared.operator.Operator.{Operator}
use Rattle.tl_rules.specs.declared.rule.Rule.TheVariants.{Shape, Limit}
use Rattle.tl_rules.specs.Parts.{offset_of, is_call}
use Rattle.tl_rules.specs.Rules.{Break}
use Rattle.tl_rules.proofs.Offsets.{form-within}
use Rattle.tl_rules.proofs.Order.{IsInOrder, both, none, one, tested}
use Rattle.tl_line.specs.Actions.{action_breaks}
use Rattle.tl_line.specs.ActionLists.{limit_breaks, placed_breaks, actions_breaks}
use Rattle.tl_line.proofs.ActionOrder.{action-shape, call-order}

placed-order : (names : List (List ℕ)) (operators : List Operator) (before : ℕ) (f : FormTree) (low next : ℕ) → RisesFrom low f next →
    IsInOrder (64 * low) (placed_breaks names operators before f) (64 * next)
placed-order names operators before f low next h =
    let within = form-within f low next h in
    let at = offset_of f in
    let breaks = action_breaks names operators f in
    let limit = limit_breaks before at in
    let P : Bool → Type 0 = λ b. IsInOrder (64 * low) (if b then limit ++ breaks else breaks ++ limit) (64 * next) in
    elim (cases_Bool (is_call f)) [
      | inl is ↦ subst P (sym is) (both (64 * low) (64 * at + 30) (64 * next) limit breaks
          (tested (not (nat_lt before 100000)) Limit at (64 * low) (64 * at + 30) (omega (arith, within.0)) (omega arith))
          (call-order names operators f low next is h))
      | inr is ↦
          let Q : List Break → Type 0 = λ bs. IsInOrder (64 * low) (bs ++ limit) (64 * next) in
          subst P (sym is) (subst Q (sym (action-shape names operators f is))
          (both (64 * low) (64 * at + 10) (64 * next) ((Shape, at) ∷ []) limit
          (one Shape at (64 * low) (64 * at + 10) (omega (arith, within.0)) (omega arith))
          (tested (not (nat_lt before 100000)) Limit at (64 * at + 10) (64 * next) (omega arith) (omega (arith, within.1)))))
    ]

pub actions-order : (names : List (List ℕ)) (operators : List Operator) (before : ℕ) (fs : FormTrees) (low next : ℕ) →
    RiseFrom low fs next → IsInOrder (64 * low) (actions_breaks names operators before fs) (64 * next)
actions-order names operators before no_form low next h = none (64 * low) (64 * next) (omega arith)
actions-order names operators before (more_forms f fs) low next h =
    both (64 * low) (64 * h.0) (64 * next) _ _ (placed-order names operators before f low h.0 h.1)
    (actions-order names operators (before + 1) fs h.0 next h.2)
