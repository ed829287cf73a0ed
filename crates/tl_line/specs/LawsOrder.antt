-- Laws of the breaks of actions.
use Rattle.std.specs.Prelude.{◌≡◌, ℕ, List, Some}
use Rattle.tl_sexpr.specs.Offsets.{RisesFrom}
use Rattle.tl_sexpr.specs.Tree.{FormTree}
use Rattle.tl_syntax.specs.declared.operator.Operator.{Operator}
use Rattle.tl_rules.specs.Rules.{Break, first_break, IsLeastBreak}
use Rattle.tl_line.specs.Actions.{action_breaks}

-- of the breaks of an action whose forms have rising offsets, the first in reading order has the
-- least offset, and there the least rule
abbrev pub FirstBreakIsLeast : Type 0
FirstBreakIsLeast =
    (names : List (List ℕ)) (operators : List Operator) (f : FormTree) (low next : ℕ) (b : Break) →
    RisesFrom low f next → first_break (action_breaks names operators f) ≡ Some b → IsLeastBreak (action_breaks names operators f) b
