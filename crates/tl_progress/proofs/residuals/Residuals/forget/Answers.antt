use Rattle.tl_progress.specs.KeptResiduals.{found_in}
use Rattle.tl_progress.proofs.residuals.Residuals.forget.Goals as goal

pub returns-clause-none : goal.returns-clause-none
unfolding found_in
returns-clause-none c = c.forget.ensures.none

pub returns-clause-fewer : goal.returns-clause-fewer
unfolding found_in
returns-clause-fewer c = λ n k i h. c.forget.ensures.fewer (record { world = n; formula = k }) i h
