use Rattle.tl_nodes.proofs.FilledTrees.{bindings-short}
use Rattle.tl_nodes.proofs.nodes.filled.are_same.Goals as goal

pub returns-then-bindings-others : goal.returns-then-bindings-others
returns-then-bindings-others c = bindings-short c.args.bindings.now c.args.others.now c.if-bindings-others.true
