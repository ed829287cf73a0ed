use Rattle.tl_gen.proofs.Lines.{four_digits}
use Rattle.tl_gen.proofs.problem.ball_line.Goals as goal

pub returns : goal.returns
returns c = rw (c.laid_out.ensures, four_digits) at c.format.ensures.ok
