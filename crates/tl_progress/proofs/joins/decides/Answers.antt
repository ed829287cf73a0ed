use Rattle.std.proofs.Common.{ap, ◌∙◌}
use Rattle.tl_terms.specs.Progression.{constant}
use Rattle.tl_progress.proofs.joins.decides.Goals as goal

pub returns : goal.returns
returns c = λ h. c.is_constant.ensures h ∙ ap constant c.deciding_truth.ensures
