-- What the set's answer to an insertion says of the trees.
use Rattle.std.proofs.Common.{◌≡◌, ℕ, Bool, true, false, List, [], ◌∷◌, ◌++◌, map, length, Some, slice_get, not, sym, ap, ◌∙◌, subst}
use Rattle.std.proofs.Common.{if◌then◌else◌, append-nil, Result, Ok, Err, OnErr}
use Rattle.std.specs.List.{list_any}
use Rattle.std.proofs.lemmas.Bool.{not-true, not-false}
use Rattle.indexmap.specs.IndexSet.{insert_key}
use Rattle.std.proofs.lemmas.List.{map-append}
use Rattle.tl_nodes.specs.declared.node.Node.{Node}
use Rattle.tl_syntax.specs.Trees.{FormulaTree}
use Rattle.tl_nodes.specs.Fits.{fits, EachFits, begins_with_constants}
use Rattle.tl_nodes.specs.NodeTrees.{tree_of_node, trees_of_nodes}
use Rattle.tl_nodes.specs.Numbering.{OneToOne, Keeps}
use Rattle.tl_nodes.specs.Temporal.{has_temporal, node_temporal}
use Rattle.tl_nodes.proofs.GrownLists.{get-left}
use Rattle.tl_nodes.proofs.NodeSame.{node_eq, alike}
use Rattle.tl_nodes.proofs.OneMoreNode.{fresh, one-push, fits-push, constants-push}
use Rattle.tl_nodes.proofs.TemporalFlags.{temporal-node}
use Rattle.tl_nodes.proofs.TreesOfNodes.{trees-push, trees-length, node-left, layer}

module _ (ns ms : List Node) (n : Node) (is_new : Bool) (keys : ms ≡ insert_key node_eq ns n)
    (added : is_new ≡ not (list_any (node_eq n) ns)) where
  pub absent : is_new ≡ true → list_any (node_eq n) ns ≡ false
  absent h = not-true (list_any (node_eq n) ns) (sym added ∙ h)

  pub pushed : is_new ≡ true → ms ≡ ns ++ n ∷ []
  pushed h = keys ∙ ap (λ b. if b then ns else ns ++ n ∷ []) (absent h)

  pub unmoved : is_new ≡ false → ms ≡ ns
  unmoved h = keys ∙ ap (λ b. if b then ns else ns ++ n ∷ []) (not-false (list_any (node_eq n) ns) (sym added ∙ h))

pub number : (ns ms : List Node) (us : List FormulaTree) → trees_of_nodes ms ≡ trees_of_nodes ns ++ us → EachFits ms → (n k : Node) →
    fits (length (trees_of_nodes ns)) n ≡ true
    → (at : ℕ) → slice_get ms at ≡ Some k → node_eq n k ≡ true → slice_get (trees_of_nodes ms) at ≡
    Some (tree_of_node (trees_of_nodes ns) n)
number ns ms us more all n k w at h e =
    layer ms all at k h ∙ ap Some (sym (alike (trees_of_nodes ms) n k e) ∙
    (ap (λ ts. tree_of_node ts n) more ∙ node-left (trees_of_nodes ns) us n w))

pub keeps : (ns ms : List Node) (us : List FormulaTree) → trees_of_nodes ms ≡ trees_of_nodes ns ++ us →
    Keeps (trees_of_nodes ns) (trees_of_nodes ms)
keeps ns ms us more i t h = subst (λ ts. slice_get ts i ≡ Some t) (sym more) (get-left (trees_of_nodes ns) us i t h)

pub same-trees : (ns ms : List Node) → ms ≡ ns → trees_of_nodes ms ≡ trees_of_nodes ns ++ []
same-trees ns ms e = ap trees_of_nodes e ∙ sym (append-nil (trees_of_nodes ns))

pub more-trees : (ns ms : List Node) (n : Node) → ms ≡ ns ++ n ∷ [] → trees_of_nodes ms ≡ trees_of_nodes ns ++
    tree_of_node (trees_of_nodes ns) n ∷ []
more-trees ns ms n e = ap trees_of_nodes e ∙ trees-push ns n

module _ (ns ms : List Node) (n : Node) (e : ms ≡ ns ++ n ∷ []) (w : fits (length (trees_of_nodes ns)) n ≡ true) where
  pub below-more : EachFits ns → EachFits ms
  below-more all = subst EachFits (sym e) (fits-push ns n all (subst (λ k. fits k n ≡ true) (trees-length ns) w))

  pub one-more : EachFits ns → OneToOne (trees_of_nodes ns) → list_any (node_eq n) ns ≡ false → OneToOne (trees_of_nodes ms)
  one-more all one none = subst OneToOne (sym (more-trees ns ms n e)) (one-push (trees_of_nodes ns) (tree_of_node (trees_of_nodes ns) n) one
      (fresh ns all one n w none))

  pub constants-more : begins_with_constants ns ≡ true → begins_with_constants ms ≡ true
  constants-more h = ap begins_with_constants e ∙ constants-push ns n h

  pub flags-more : (flags : List Bool) → flags ≡ map has_temporal (trees_of_nodes ns) → flags ++ node_temporal flags n ∷ [] ≡
      map has_temporal (trees_of_nodes ms)
  flags-more flags h =
      let ts = trees_of_nodes ns in
      let one : node_temporal flags n ≡ has_temporal (tree_of_node ts n) = ap (λ fs. node_temporal fs n) h ∙
      sym (temporal-node ts (length ts) n w) in
      sym (ap (map has_temporal) (more-trees ns ms n e) ∙ (map-append has_temporal ts (tree_of_node ts n ∷ []) ∙
      sym (ap (λ b. flags ++ b ∷ []) one ∙ ap (λ fs. fs ++ has_temporal (tree_of_node ts n) ∷ []) h)))

-- the flag that was worked out before is pushed behind the flags
pub flags-pushed : (old kept shown after : List Bool) (flag done : Bool) (n : Node) → kept ≡ old → shown ≡ old → flag ≡
    node_temporal shown n → done ≡ true
    → after ≡ (if done then kept ++ flag ∷ [] else kept) → after ≡ old ++ node_temporal old n ∷ []
flags-pushed old kept shown after flag done n k s f d a =
    a ∙ (ap (λ b. if b then kept ++ flag ∷ [] else kept) d ∙ (ap (λ fs. fs ++ flag ∷ []) k ∙
    ap (λ b. old ++ b ∷ []) (f ∙ ap (λ fs. node_temporal fs n) s)))

pub where_refused : {T E P : Type 0} → P → (r : Result T E) → OnErr r P
where_refused p (Ok x) = tt
where_refused p (Err e) = p
