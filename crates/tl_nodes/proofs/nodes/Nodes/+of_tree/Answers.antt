use Rattle.std.proofs.Common.{◌≡◌, ◌+◌, ◌++◌, ◌∷◌, [], true, length, map, take, sym, ap, ◌∙◌, subst}
use Rattle.std.proofs.lemmas.List.{take_more}
use Rattle.tl_nodes.proofs.nodes.Nodes.+of_tree.Goals as goal
use Rattle.tl_syntax.specs.TreeOfFormula.{tree_of_formula}
use Rattle.tl_nodes.specs.Fits.{all_below}
use Rattle.tl_nodes.specs.NodeTrees.{trees_at}
use Rattle.tl_nodes.specs.Numbers.{trees}
use Rattle.tl_nodes.proofs.KeptNumbers.{keeps-all, keeps-below, push-below, push-trees}

pub of_trees-loop-f-preserved : goal.of_trees-loop-f-preserved
of_trees-loop-f-preserved t c =
    let ts = trees c.loop-f.self in
    let us = trees c.of_tree.new.self in
    let a = c.in_ok-id.ensures in
    let was = c.loop-f.invariant in
    let xs = c.as_slice-f-items.result.now in
    let more : take (c.loop-f.f-index + 1) xs ≡ take c.loop-f.f-index xs ++ c.f-item.result ∷ [] =
    take_more xs c.loop-f.f-index c.f-item.result c.loop-f-test.true ∙ ap (λ x. take c.loop-f.f-index xs ++ x ∷ []) (sym c.f-item.is) in
    record {
      kept = λ i u h. a.kept i u (was.kept i u h);
      below = subst (λ ids. all_below (length us) ids ≡ true) (sym c.in_ok-push.ensures)
          (push-below us c.loop-f.ids c.in_ok-id.id (tree_of_formula c.f-item.result)
          (keeps-below ts us a.kept c.loop-f.ids was.below) a.number);
      same = ap (trees_at us) c.in_ok-push.ensures
          ∙ (push-trees us c.loop-f.ids c.in_ok-id.id c.f-item.result (take c.loop-f.f-index xs)
          (keeps-all ts us a.kept c.loop-f.ids was.below ∙ was.same) a.number
          ∙ ap (map tree_of_formula) (sym more));
    }
