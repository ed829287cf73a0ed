use Rattle.tl_nodes.proofs.nodes.Nodes.or.Goals as goal
use Rattle.tl_nodes.specs.Joins.{simplified_join}

pub returns-clause-number : goal.returns-clause-number
unfolding simplified_join
returns-clause-number c = c.join.ensures.number

pub returns-clause-known : goal.returns-clause-known
unfolding simplified_join
returns-clause-known c = c.join.ensures.known
