use Rattle.std.proofs.Common.{◌++◌, ap, sym, arith}
use Rattle.tl_action.specs.Join.{arranged, new_parameters_in}
use Rattle.tl_action.proofs.NewVariables.{new_parameters-on, new_parameters-ended}
use Rattle.tl_action.proofs.new_parameters.new_parameters_of.Goals as goal

pub loop-j-init : goal.loop-j-init
loop-j-init c = ap (λ new_parameters. new_parameters ++ new_parameters_in c.args.bounds.now) (sym c.in_ok-new_parameters.ensures.items)

pub loop-j-preserved : goal.loop-j-preserved
loop-j-preserved c =
    let many = c.len.ensures in
    new_parameters-on c.args.bounds.now.operator.now.params (arranged c.args.bounds.now).bounds c.loop-j.j c.bound.result.now
    c.loop-j.new_parameters.items c.push.new.self.items c.in_ok-vars.vars (omega (arith, c.loop-j-test.true, many)) c.bound.ensures
    c.in_ok-vars.ensures
    c.in_ok-push.ensures.items c.loop-j.invariant

pub returns : goal.returns
returns c =
    let many = c.len.ensures in
    new_parameters-ended c.args.bounds.now.operator.now.params (arranged c.args.bounds.now).bounds c.loop-j.j c.loop-j.new_parameters.items
    (omega (arith, c.loop-j-test.false, many)) c.loop-j.invariant
