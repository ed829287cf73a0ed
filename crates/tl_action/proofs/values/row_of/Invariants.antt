use Rattle.std.proofs.Common.{drop}
use Rattle.tl_action.proofs.FrameRows.{RowPassed}
use Rattle.tl_eval.specs.Frames.{assignment_in}
use Rattle.tl_action.proofs.values.row_of.Given as goal

abbrev pub invariant-loop-var : goal.invariant-loop-var
invariant-loop-var l = RowPassed l.here.world.now (assignment_in l.env) l.vars (drop l.var-index l.vars) l.row
