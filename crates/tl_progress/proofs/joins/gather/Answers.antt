use Rattle.std.proofs.Common.{Bool, not, ap, ◌∙◌}
use Rattle.tl_nodes.specs.Numbers.{trees}
use Rattle.tl_terms.specs.Progression.{constant}
use Rattle.tl_progress.proofs.Gathering.{gathered-past}
use Rattle.tl_progress.proofs.joins.gather.Goals as goal

pub returns-then-is_constant-clause-same : goal.returns-then-is_constant-clause-same
returns-then-is_constant-clause-same c =
    gathered-past (trees c.args.nodes.now) c.args.parts.now c.args.part c.args.junction
    (c.is_constant.ensures c.if-is_constant.true ∙ ap (λ (b : Bool). constant (not b)) c.deciding_truth.ensures)
