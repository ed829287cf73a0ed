use Rattle.std.proofs.Common.{◌<◌, sym, ap, ◌∙◌, subst}
use Rattle.std.specs.Prelude.{option_copied}
use Rattle.tl_nodes.proofs.nodes.Nodes.get.Goals as goal
use Rattle.tl_nodes.proofs.TreesOfNodes.{trees-length, layer}

pub unwrap-requires : goal.unwrap-requires
unwrap-requires c = c.get_index.ensures.found.1 (subst (λ n. c.args.id < n) (trees-length _) c.requires)

pub returns-clause-tree : goal.returns-clause-tree
returns-clause-tree c = layer _ c.args.self.now.below c.args.id _ (sym c.get_index.ensures.key ∙ ap option_copied c.unwrap.ensures)
