use Rattle.std.proofs.Common.{arith}
use Rattle.tl_eval.proofs.BasicLaws.{one-item, two-items, one-plain, two-plain}
use Rattle.tl_eval.proofs.basic_truth.plain_atom.Goals as goal

pub returns-in-Some : goal.returns-in-Some
returns-in-Some c =
    one-plain c.args.w.now c.args.frame.now c.args.pred c.args.args.now c.as_slice.result.now c.as_slice.ensures c.only-item.result
    c.in-Some.value c.one_holds.result
    (one-item c.as_slice.result.now c.only-item.result (omega (arith, c.in-len1.len_at_least, c.in-len1.len_below)) c.only-item.is)
    c.in-Some.ensures c.one_holds.ensures

pub returns-in-Some-Some : goal.returns-in-Some-Some
returns-in-Some-Some c =
    two-plain c.args.w.now c.args.frame.now c.args.pred c.args.args.now c.as_slice.result.now c.as_slice.ensures c.first-item.result
    c.second-item.result c.in-Some-Some.a c.in-Some-Some.b c.two_hold.result
    (two-items c.as_slice.result.now c.first-item.result c.second-item.result
    (omega (arith, c.in-len2.len_at_least, c.in-len2.len_below)) c.first-item.is c.second-item.is) c.in-Some-Some.ensures
    c.in-Some-Some.ensures' c.two_hold.ensures
