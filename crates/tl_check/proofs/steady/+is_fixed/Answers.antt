use Rattle.tl_check.proofs.SteadyLaws.{fixed-Var, fixed-Val, fixed-Arith}
use Rattle.tl_check.proofs.steady.+is_fixed.Goals as goal

pub returns-in-Var : goal.returns-in-Var
returns-in-Var t c = λ _. fixed-Var c.args.term.now c.in-Var.field-0 c.in-Var.is

pub returns-in-Val : goal.returns-in-Val
returns-in-Val t c = λ _. fixed-Val c.args.term.now c.in-Val.field-0 c.in-Val.is

pub returns-then-is_fixed : goal.returns-then-is_fixed
returns-then-is_fixed t c =
    λ h. fixed-Arith c.args.term.now c.in-Arith.field-0 c.in-Arith.left c.in-Arith.right c.in-Arith.field-3 c.deref.result.now
    c.deref-then-is_fixed.result.now c.in-Arith.is c.deref.ensures c.deref-then-is_fixed.ensures (c.is_fixed.ensures c.if-is_fixed.true)
    (c.is_fixed-then-is_fixed.ensures h)
