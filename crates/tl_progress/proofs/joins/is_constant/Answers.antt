use Rattle.tl_nodes.specs.Numbers.{trees}
use Rattle.tl_progress.proofs.TruthLayers.{constant-True, constant-False}
use Rattle.tl_progress.proofs.joins.is_constant.Goals as goal

pub returns-in-True : goal.returns-in-True
returns-in-True c = λ h. constant-True (trees c.args.nodes.now) c.args.id c.get.result.now c.get.ensures.tree c.in-True.is c.args.truth h

pub returns-in-False : goal.returns-in-False
returns-in-False c = λ h. constant-False (trees c.args.nodes.now) c.args.id c.get.result.now c.get.ensures.tree c.in-False.is c.args.truth h
