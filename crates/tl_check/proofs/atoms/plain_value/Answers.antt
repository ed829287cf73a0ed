use Rattle.tl_check.proofs.AtomLaws.{variable-value, constant-value}
use Rattle.tl_eval.specs.Frames.{assignment_in}
use Rattle.tl_check.proofs.atoms.plain_value.Goals as goal

pub returns-in-Var : goal.returns-in-Var
returns-in-Var c = variable-value (assignment_in c.args.env.now) c.args.term.now c.in-Var.var c.value_of_arg.result c.in-Var.is
    c.value_of_arg.ensures

pub returns-in-Val : goal.returns-in-Val
returns-in-Val c = constant-value (assignment_in c.args.env.now) c.args.term.now c.in-Val.value c.in-Val.is
