-- What an action breaks by its place in a plan.
use Rattle.std.proofs.Common.{◌≡◌, ℕ, List, [], ◌++◌, Bool, true, false, refl}
use Rattle.std.specs.Prelude.{nat_lt, if◌then◌else◌}
use Rattle.std.proofs.lemmas.List.{append-nil}
use Rattle.tl_sexpr.specs.Tree.{FormTree}
use Rattle.tl_syntax.specs.declared.operator.Operator.{Operator}
use Rattle.tl_rules.specs.declared.rule.Rule.TheVariants.{Shape, Limit}
use Rattle.tl_rules.specs.declared.rule.FormFault.TheVariants.{Breaks}
use Rattle.tl_rules.specs.Parts.{offset_of, is_call}
use Rattle.tl_rules.specs.Reads.{IsFirst}
use Rattle.tl_rules.specs.Rules.{Break}
use Rattle.tl_line.specs.Actions.{action_breaks}
use Rattle.tl_line.proofs.ActionOrder.{action-shape}
use Rattle.tl_line.specs.ActionLists.{placed_breaks}

either-way : (call : Bool) (bs : List Break) → (if call then [] ++ bs else bs ++ []) ≡ bs
either-way true bs = refl
either-way false bs = append-nil bs

-- within the limit an action breaks what it breaks by itself
pub placed-within : (names : List (List ℕ)) (operators : List Operator) (before : ℕ) (f : FormTree) → nat_lt before 100000 ≡ true →
    placed_breaks names operators before f ≡ action_breaks names operators f
placed-within names operators before f few = rw few (either-way (is_call f) (action_breaks names operators f))

-- past the limit a list that begins with a symbol breaks the limit first
pub placed-call : (names : List (List ℕ)) (operators : List Operator) (before : ℕ) (f : FormTree) → nat_lt before 100000 ≡ false →
    is_call f ≡ true → IsFirst (placed_breaks names operators before f) (Breaks Limit (offset_of f))
placed-call names operators before f many call = rw (call, many) refl

-- and every other form the rule on its shape
pub placed-other : (names : List (List ℕ)) (operators : List Operator) (before : ℕ) (f : FormTree) → is_call f ≡ false →
    IsFirst (placed_breaks names operators before f) (Breaks Shape (offset_of f))
placed-other names operators before f other = rw (other, action-shape names operators f other) refl

pub ruleset placed = (placed-within, placed-call, placed-other)
