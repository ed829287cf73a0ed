use Rattle.std.proofs.Common.{◌≡◌, List, Option, length, take, map, subst, arith}
use Rattle.tl_syntax.specs.declared.value.Value.{Value}
use Rattle.tl_syntax.specs.declared.variable.Var.{Var}
use Rattle.tl_eval.specs.Frames.{assignment_in}
use Rattle.tl_eval.proofs.KeptLaws.{whole-slots}
use Rattle.tl_eval.proofs.kept.keep.Goals as goal

pub returns : goal.returns
returns c =
    subst (λ (frame : List (Option Value)). take (length c.args.vars.now) c.loop-i.values ≡
    map (λ (s : Var). assignment_in frame s.slot) c.args.vars.now) c.current-frame.ensures
    (whole-slots (assignment_in c.current-frame.result.now) c.args.vars.now c.loop-i.i c.loop-i.values c.loop-i-test.false
    c.loop-i.invariant (omega (arith, c.loop-i.auto.i-end)))
