-- The text of the answer for an operation that is past range.
use Rattle.std.specs.Prelude.{ℕ, List, ◌++◌, codes}
use Rattle.std.specs.Fmt.{decimal, signed_decimal}
use Rattle.tl_syntax.specs.declared.action.Action.{Action}
use Rattle.tl_syntax.specs.declared.operator.Operator.{Operator}
use Rattle.tl_syntax.specs.declared.value.Op.{Op}
use Rattle.tl_syntax.specs.declared.value.Op.TheVariants.{Plus, Minus, Times}
use Rattle.tl_eval.specs.declared.range.RangeNote.{RangeNote}
pub use Rattle.tl_line.specs.AnswerLines.{action_lines}

-- the sign of an operation
abbrev pub op_text : Op → List ℕ
op_text Plus = codes "+"
op_text Minus = codes "-"
op_text Times = codes "*"

-- the line of the operation: its offset in the domain file, and its operands around its sign
abbrev pub operation_line : RangeNote → List ℕ
operation_line note =
    codes "; range at " ++ (decimal note.at ++ (codes ": " ++ (signed_decimal note.left ++
    (codes " " ++ (op_text note.op ++ (codes " " ++ (signed_decimal note.right ++ codes "\n")))))))

-- the line that says after how many actions
abbrev pub after_line : ℕ → List ℕ
after_line after = codes "; after " ++ (decimal after ++ codes " actions\n")

-- the lines of the operation and of the actions before it
abbrev pub range_text : List (List ℕ) → List Operator → RangeNote → ℕ → List Action → List ℕ
range_text names operators note after path = operation_line note ++ (after_line after ++ action_lines names operators path)
