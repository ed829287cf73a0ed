use Rattle.std.proofs.Common.{drop}
use Rattle.tl_eval.specs.Frames.{assignment_in}
use Rattle.tl_eval.proofs.BasicLaws.{ArgsPassed}
use Rattle.tl_eval.proofs.basic_truth.put_values_of_args.Given as goal

abbrev pub invariant-loop-arg : goal.invariant-loop-arg
invariant-loop-arg l = ArgsPassed (assignment_in l.frame) l.args (drop l.arg-index l.args) l.arg-index l.row
