use Rattle.std.proofs.Common.{arith}
use Rattle.tl_eval.specs.Frames.{assignment_in}
use Rattle.tl_eval.proofs.BasicLaws.{one-argument, two-arguments}
use Rattle.tl_eval.proofs.basic_truth.fact_true.Goals as goal

pub returns-in-len1 : goal.returns-in-len1
returns-in-len1 c =
    one-argument c.args.w.now (assignment_in c.args.frame.now) c.args.pred c.args.args.now _ c.value_of_arg.result c.one_holds.result
    (omega (arith, c.in-len1.len_at_least, c.in-len1.len_below)) c.value_of_arg.ensures c.one_holds.ensures

pub returns-in-len2 : goal.returns-in-len2
returns-in-len2 c =
    two-arguments c.args.w.now (assignment_in c.args.frame.now) c.args.pred c.args.args.now _ _ c.value_of_arg-in-len2.result
    c.value_of_arg-in-len2-2.result c.two_hold.result (omega (arith, c.in-len2.len_at_least, c.in-len2.len_below))
    c.value_of_arg-in-len2.ensures c.value_of_arg-in-len2-2.ensures c.two_hold.ensures
