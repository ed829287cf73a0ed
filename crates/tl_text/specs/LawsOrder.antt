-- Laws of the breaks of plan files.
use Rattle.std.specs.Prelude.{◌≡◌, ℕ, List, Some}
use Rattle.tl_sexpr.specs.Offsets.{RiseFrom}
use Rattle.tl_sexpr.specs.Tree.{FormTrees}
use Rattle.tl_syntax.specs.declared.operator.Operator.{Operator}
use Rattle.tl_rules.specs.Rules.{Break, first_break, IsLeastBreak}
use Rattle.tl_text.specs.Plans.{plan_breaks}

-- of the breaks of a plan file whose forms have rising offsets, the first in reading order has the
-- least offset, and there the least rule
abbrev pub FirstBreakIsLeast : Type 0
FirstBreakIsLeast =
    (names : List (List ℕ)) (operators : List Operator) (forms : FormTrees) (low next : ℕ) (b : Break) →
    RiseFrom low forms next → first_break (plan_breaks names operators forms) ≡ Some b → IsLeastBreak (plan_breaks names operators forms) b
