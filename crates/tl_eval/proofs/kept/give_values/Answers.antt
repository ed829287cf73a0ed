use Rattle.std.proofs.Common.{arith, ◌-◌, ◌<◌, length, get_or, None}
use Rattle.tl_syntax.specs.declared.variable.Var.{Var}
use Rattle.tl_eval.specs.Frames.{assignment_in}
use Rattle.tl_eval.proofs.KeptLaws.{back-one}
use Rattle.tl_eval.proofs.ScopeLaws.{each-at}
use Rattle.tl_eval.proofs.kept.give_values.Goals as goal

pub loop-i-preserved : goal.loop-i-preserved
loop-i-preserved c =
    let none : Var = record { slot = 0; name = 0 } in
    let within = c.loop-i.invariant.within in
    let some = c.loop-i-test.true in
    let kept = c.loop-i.auto.frame in
    let below : c.loop-i.i - 1 < length c.args.vars.now = omega arith in
    let slot : (get_or c.args.vars.now (c.loop-i.i - 1) none).slot < length c.args.frame.now =
    each-at (λ (s : Var). s.slot < length c.args.frame.now) c.args.vars.now (c.loop-i.i - 1) none c.requires.slots below in
    record {
      within = omega arith;
      so_far = back-one c.args.vars.now c.args.values.now (c.loop-i.i - 1) c.loop-i.i none None c.loop-i.frame
          (assignment_in c.args.frame.now) (omega arith) below (omega arith) (omega arith) c.loop-i.invariant.so_far;
    }
