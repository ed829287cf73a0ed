use Rattle.std.specs.Prelude.{pos}
use Rattle.tl_syntax.specs.declared.value.Value.TheVariants.{Int}
use Rattle.tl_syntax.specs.declared.variable.Arg.TheVariants.{Val}
use Rattle.tl_eval.specs.Frames.{assignment_in}
use Rattle.tl_eval.proofs.BasicLaws.{args-begun, args-room, args-pushed, args-undefined, args-ended}
use Rattle.tl_eval.proofs.basic_truth.put_values_of_args.Goals as goal

pub loop-arg-init : goal.loop-arg-init
loop-arg-init c = args-begun (assignment_in c.args.frame.now) c.args.args.now c.args.row.now c.requires.empty c.requires.few

pub push-requires : goal.push-requires
push-requires c = args-room (assignment_in c.args.frame.now) c.args.args.now c.loop-arg.arg-index
    (Val (Int (pos 0))) c.loop-arg.row c.loop-arg-test.true c.loop-arg.invariant

pub loop-arg-preserved : goal.loop-arg-preserved
loop-arg-preserved c = args-pushed (assignment_in c.args.frame.now) c.args.args.now c.loop-arg.arg-index _ c.loop-arg.row c.push.new.self
    c.value_of_arg.result c.in-Some.value c.loop-arg-test.true c.loop-arg.invariant c.value_of_arg.ensures c.in-Some.is c.push.ensures

pub returns-in-None : goal.returns-in-None
returns-in-None c = args-undefined (assignment_in c.args.frame.now) c.args.args.now c.loop-arg.arg-index _ c.loop-arg.row
    c.value_of_arg.result c.loop-arg-test.true c.loop-arg.invariant c.value_of_arg.ensures c.in-None.is

pub returns : goal.returns
returns c = args-ended (assignment_in c.args.frame.now) c.args.args.now c.loop-arg.arg-index c.loop-arg.row c.loop-arg-test.false
    c.loop-arg.invariant
