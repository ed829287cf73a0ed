use Rattle.std.proofs.Common.{◌≡◌, false, map, ◌++◌, [], ◌∷◌, length, slice_get, rules, sym, ap, ◌∙◌, subst}
use Rattle.indexmap.specs.IndexSet.{insert_key}
use Rattle.tl_nodes.specs.declared.node.Node.TheVariants as node
use Rattle.tl_nodes.proofs.nodes.Nodes.new.Goals as goal
use Rattle.tl_nodes.specs.Filled.{AreFilled}
use Rattle.tl_nodes.specs.Fits.{EachFits, begins_with_constants}
use Rattle.tl_nodes.specs.NodeTrees.{trees_of_nodes}
use Rattle.tl_nodes.specs.Numbering.{OneToOne}
use Rattle.tl_nodes.specs.Temporal.{has_temporal}
use Rattle.tl_nodes.proofs.Constants.{two, two-trees, two-fit, two-constants, two-one, two-plain}
use Rattle.tl_nodes.proofs.FilledTrees.{none-filled, all-filled, copies-length}
use Rattle.tl_nodes.proofs.NodeSame.{node_eq}

pub invariant_of-result : goal.invariant_of-result
invariant_of-result c =
    let e : c.insert-2.new.self.keys ≡ two =
    c.in_ok-insert-2.ensures.keys ∙ ap (λ ks. insert_key node_eq ks node.False)
    (c.in_ok-insert.ensures.keys ∙ ap (λ ks. insert_key node_eq ks node.True) c.new-table.ensures.empty)
    in let copies = c.in_ok-filled.ensures.items_if_clones_equal (λ y h. search rules) in
    let ts = trees_of_nodes c.insert-2.new.self.keys in
    record {
      below = subst EachFits (sym e) two-fit;
      one_to_one = subst (λ ns. OneToOne (trees_of_nodes ns)) (sym e) two-one;
      constants = ap begins_with_constants e ∙ two-constants;
      flags = c.in_ok-push-2.ensures.items ∙ (ap (λ fs. fs ++ false ∷ [])
          (c.in_ok-push.ensures.items ∙ ap (λ fs. fs ++ false ∷ []) c.new-temporal.ensures.items)
          ∙ sym (ap (λ ns. map has_temporal (trees_of_nodes ns)) e ∙ two-plain));
      places = ap length copies ∙ copies-length 1024 c.none.result;
      filled_is = subst (AreFilled ts) (sym copies) (all-filled ts 1024 c.none.result
          (none-filled ts c.none.result c.none.ensures.at c.none.ensures.count c.none.ensures.number
          (ap (λ us. slice_get us 0) (ap trees_of_nodes e ∙ two-trees))));
    }

pub returns : goal.returns
returns c =
    let e : c.insert-2.new.self.keys ≡ two =
    c.in_ok-insert-2.ensures.keys ∙ ap (λ ks. insert_key node_eq ks node.False)
    (c.in_ok-insert.ensures.keys ∙ ap (λ ks. insert_key node_eq ks node.True) c.new-table.ensures.empty)
    in record { constants = ap trees_of_nodes e ∙ two-trees }
