use Rattle.tl_eval.specs.Frames.{assignment_in}
use Rattle.tl_eval.proofs.TermLaws.{at-Var, at-Val}
use Rattle.tl_eval.proofs.term_value.plain_value.Goals as goal

pub returns-in-Var : goal.returns-in-Var
returns-in-Var c = λ w. at-Var w (assignment_in c.args.frame.now) c.args.t.now c.in-Var.var c.value_in.result c.in-Var.is c.value_in.ensures

pub returns-in-Val : goal.returns-in-Val
returns-in-Val c = λ w. at-Val w (assignment_in c.args.frame.now) c.args.t.now c.in-Val.value c.in-Val.is
