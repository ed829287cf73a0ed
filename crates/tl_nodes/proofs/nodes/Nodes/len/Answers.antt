use Rattle.std.proofs.Common.{◌∙◌, sym}
use Rattle.tl_nodes.proofs.nodes.Nodes.len.Goals as goal
use Rattle.tl_nodes.proofs.Constants.{truth, falsehood}
use Rattle.tl_nodes.proofs.TreesOfNodes.{trees-length}

pub returns-clause-len : goal.returns-clause-len
returns-clause-len c = c.len.ensures.len ∙ sym (trees-length _)

pub returns-clause-truth : goal.returns-clause-truth
returns-clause-truth c = truth _ c.args.self.now.constants

pub returns-clause-falsehood : goal.returns-clause-falsehood
returns-clause-falsehood c = falsehood _ c.args.self.now.constants
