use Rattle.std.proofs.Common.{◌≡◌, true, map, take, length}
use Rattle.tl_nodes.proofs.nodes.Nodes.+of_tree.Given as goal
use Rattle.tl_syntax.specs.TreeOfFormula.{tree_of_formula}
use Rattle.tl_nodes.specs.Fits.{all_below}
use Rattle.tl_nodes.specs.NodeTrees.{trees_at}
use Rattle.tl_nodes.specs.Numbering.{Keeps}
use Rattle.tl_nodes.specs.Numbers.{trees}

abbrev pub invariant-of_trees-loop-f : goal.invariant-of_trees-loop-f
invariant-of_trees-loop-f l = record {
  kept : Keeps (trees l.fn.self) (trees l.self);
  below : all_below (length (trees l.self)) l.ids ≡ true;
  same : trees_at (trees l.self) l.ids ≡ map tree_of_formula (take l.f-index l.f-items);
}
