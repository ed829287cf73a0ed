use Rattle.tl_eval.specs.Frames.{assignment_in}
use Rattle.tl_eval.proofs.PartLaws.{part-free, part-known, part-none}
use Rattle.tl_eval.proofs.pattern_of.part_of.Goals as goal

pub returns-in-Some : goal.returns-in-Some
returns-in-Some c = part-free c.args.vars.now (assignment_in c.args.frame.now) c.args.arg.now c.in-Var.var c.position_in.result c.in-Some.n
    c.in-Var.is c.position_in.ensures c.in-Some.is

pub returns-in-Some-value_in : goal.returns-in-Some-value_in
returns-in-Some-value_in c =
    part-known c.args.vars.now (assignment_in c.args.frame.now) c.args.arg.now c.in-Var.var c.position_in.result c.value_in.result
    c.in-Some-value_in.value c.in-Var.is c.position_in.ensures c.in-None.is c.value_in.ensures c.in-Some-value_in.is

pub returns-in-None-value_in : goal.returns-in-None-value_in
returns-in-None-value_in c =
    part-none c.args.vars.now (assignment_in c.args.frame.now) c.args.arg.now c.in-Var.var c.position_in.result c.value_in.result
    c.in-Var.is c.position_in.ensures c.in-None.is c.value_in.ensures c.in-None-value_in.is
