use Rattle.tl_check.proofs.AtomLaws.{ArgsRead}
use Rattle.tl_eval.specs.Frames.{assignment_in}
use Rattle.tl_check.proofs.atoms.row_of_args.Given as goal

abbrev pub invariant-loop-arg : goal.invariant-loop-arg
invariant-loop-arg l = ArgsRead (assignment_in l.env) l.args l.arg-index l.row
