use Rattle.tl_check.proofs.AtomLaws.{args-begun, args-end}
use Rattle.tl_eval.specs.Frames.{assignment_in}
use Rattle.tl_check.proofs.atoms.row_of_args.Goals as goal

pub loop-arg-init : goal.loop-arg-init
loop-arg-init c = args-begun (assignment_in c.args.env.now) c.args.args.now c.new-row.result c.new-row.ensures

pub returns : goal.returns
returns c = args-end (assignment_in c.args.env.now) c.args.args.now c.loop-arg.arg-index c.loop-arg.row c.loop-arg-test.false
    c.loop-arg.invariant
