use Rattle.std.proofs.Common.{ℕ, List, ap}
use Rattle.tl_progress.specs.declared.residuals.Incoming.{Incoming}
use Rattle.tl_progress.specs.KeptResiduals.{found_in}
use Rattle.tl_progress.specs.WorldsKept.{number_for}
use Rattle.tl_progress.proofs.residuals.Residuals.new.Goals as goal

pub returns : goal.returns
unfolding found_in
returns c = λ n k. ap (λ (es : List (Incoming × ℕ)). number_for es (record { world = n; formula = k })) c.new.ensures
