use Rattle.std.proofs.Common.{length, ap, ◌∙◌}
use Rattle.tl_nodes.proofs.nodes.Nodes.join_anew.Goals as goal
use Rattle.tl_nodes.specs.Fits.{fits}
use Rattle.tl_nodes.specs.Joins.{join_node}
use Rattle.tl_nodes.specs.Numbers.{trees}
use Rattle.tl_nodes.proofs.NestedJoins.{join-fits}

pub intern-requires : goal.intern-requires
intern-requires c =
    let n = c.join_of-node.ensures ∙ ap (join_node c.args.junction) c.in_ok-ids.ensures in
    ap (fits (length (trees c.args.self.now))) n ∙ (join-fits (length (trees c.args.self.now)) c.args.junction c.args.left.now ∙ c.requires)
