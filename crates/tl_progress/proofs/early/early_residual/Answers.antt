use Rattle.tl_nodes.specs.Numbers.{trees}
use Rattle.tl_progress.proofs.ResidualLayers.{is-and, is-or}
use Rattle.tl_progress.proofs.early.early_residual.Goals as goal

pub early_join-requires-clause-join : goal.early_join-requires-clause-join
early_join-requires-clause-join c = is-and (trees c.args.formulas.now.nodes.now) c.args.at c.get.result.now c.get.ensures.tree
    c.in-And.field-0 c.in-And.is

pub early_join-requires-in-Or-clause-join : goal.early_join-requires-in-Or-clause-join
early_join-requires-in-Or-clause-join c = is-or (trees c.args.formulas.now.nodes.now) c.args.at c.get.result.now c.get.ensures.tree
    c.in-Or.field-0 c.in-Or.is
