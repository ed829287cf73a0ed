use Rattle.tl_progress.specs.KeptResiduals.{found_in}
use Rattle.tl_progress.proofs.residuals.Residuals.find.Goals as goal

pub returns : goal.returns
unfolding found_in
returns c = c.find.ensures
