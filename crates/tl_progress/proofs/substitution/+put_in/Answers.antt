use Rattle.std.proofs.Common.{◌≡◌, true, length, map, ℕ, slice_get, Some, List, sym, ap, ◌∙◌, subst, arith}
use Rattle.tl_nodes.specs.Fits.{all_below}
use Rattle.tl_nodes.specs.NodeTrees.{tree_at, trees_at}
use Rattle.tl_nodes.specs.Numbers.{trees}
use Rattle.tl_nodes.proofs.KeptNumbers.{keeps-all, keeps-below, push-below}
use Rattle.tl_nodes.proofs.FormulaLayers.{fits-True, fits-False, fits-Not, fits-Next, fits-Always, fits-Eventually, fits-Within}
use Rattle.tl_nodes.proofs.FormulaLayers.{fits-During, fits-ForAll, fits-Exists, fits-Until, fits-And, fits-Or}
use Rattle.tl_syntax.specs.declared.substitution.Binding.{Binding}
use Rattle.tl_syntax.specs.Bindings.{assignment_of}
use Rattle.tl_syntax.specs.Substitution.{substituted, substituted_bound}
use Rattle.tl_syntax.specs.Trees.{FormulaTree}
use Rattle.tl_syntax.proofs.Bindings.{assignment_below}
use Rattle.tl_progress.proofs.TruthLayers.{less-ForAll, less-Exists}
use Rattle.tl_progress.proofs.PutLayers.{stays, longer, less-Not, less-Next, less-Always, less-Eventually, less-Within, less-During}
use Rattle.tl_progress.proofs.PutLayers.{less-Until, below-And, below-Or, put-True, put-False, put-Basic, put-Not, put-Next, put-Always}
use Rattle.tl_progress.proofs.PutLayers.{put-Eventually, put-Within, put-During, put-Until, put-And, put-Or, put-ForAll, put-Exists}
use Rattle.tl_progress.proofs.PutLayers.{fits-put, at-below, parts-more}
use Rattle.tl_progress.proofs.substitution.+put_in.Goals as goal

pub layer_with-put_in-requires : goal.layer_with-put_in-requires
layer_with-put_in-requires t c = let less = less-Not (trees c.args.nodes.now) c.args.at c.get.result.now c.get.ensures.parts c.in-Not.part
    c.in-Not.is in (omega (arith, less, c.decreases), omega (arith, less, c.requires))

pub layer_with-returns-in_ok-id-in-Not-clause-fits : goal.layer_with-returns-in_ok-id-in-Not-clause-fits
layer_with-returns-in_ok-id-in-Not-clause-fits t c = fits-Not (trees c.put_in.new.nodes) c.in_ok-id-in-Not.id _
    c.in_ok-id-in-Not.ensures.number

pub layer_with-returns-in_ok-id-in-Not-clause-tree : goal.layer_with-returns-in_ok-id-in-Not-clause-tree
layer_with-returns-in_ok-id-in-Not-clause-tree t c = put-Not (trees c.args.nodes.now)
    (trees c.put_in.new.nodes) c.args.at c.get.result.now c.get.ensures.tree
    (assignment_of c.args.bindings.now) c.in-Not.part c.in_ok-id-in-Not.id c.in-Not.is c.in_ok-id-in-Not.ensures.number

pub layer_with-put_in-requires-in-Next : goal.layer_with-put_in-requires-in-Next
layer_with-put_in-requires-in-Next t c = let less = less-Next (trees c.args.nodes.now) c.args.at c.get.result.now c.get.ensures.parts
    c.in-Next.part c.in-Next.is in (omega (arith, less, c.decreases), omega (arith, less, c.requires))

pub layer_with-returns-in_ok-id-in-Next-clause-fits : goal.layer_with-returns-in_ok-id-in-Next-clause-fits
layer_with-returns-in_ok-id-in-Next-clause-fits t c = fits-Next (trees c.put_in-in-Next.new.nodes) c.in_ok-id-in-Next.id _
    c.in_ok-id-in-Next.ensures.number

pub layer_with-returns-in_ok-id-in-Next-clause-tree : goal.layer_with-returns-in_ok-id-in-Next-clause-tree
layer_with-returns-in_ok-id-in-Next-clause-tree t c = put-Next (trees c.args.nodes.now)
    (trees c.put_in-in-Next.new.nodes) c.args.at c.get.result.now c.get.ensures.tree
    (assignment_of c.args.bindings.now) c.in-Next.part c.in_ok-id-in-Next.id c.in-Next.is c.in_ok-id-in-Next.ensures.number

pub layer_with-put_in-requires-in-Always : goal.layer_with-put_in-requires-in-Always
layer_with-put_in-requires-in-Always t c = let less = less-Always (trees c.args.nodes.now) c.args.at c.get.result.now c.get.ensures.parts
    c.in-Always.part c.in-Always.is in (omega (arith, less, c.decreases), omega (arith, less, c.requires))

pub layer_with-returns-in_ok-id-in-Always-clause-fits : goal.layer_with-returns-in_ok-id-in-Always-clause-fits
layer_with-returns-in_ok-id-in-Always-clause-fits t c = fits-Always (trees c.put_in-in-Always.new.nodes) c.in_ok-id-in-Always.id _
    c.in_ok-id-in-Always.ensures.number

pub layer_with-returns-in_ok-id-in-Always-clause-tree : goal.layer_with-returns-in_ok-id-in-Always-clause-tree
layer_with-returns-in_ok-id-in-Always-clause-tree t c = put-Always (trees c.args.nodes.now)
    (trees c.put_in-in-Always.new.nodes) c.args.at c.get.result.now c.get.ensures.tree
    (assignment_of c.args.bindings.now) c.in-Always.part c.in_ok-id-in-Always.id c.in-Always.is c.in_ok-id-in-Always.ensures.number

pub layer_with-put_in-requires-in-Eventually : goal.layer_with-put_in-requires-in-Eventually
layer_with-put_in-requires-in-Eventually t c = let less = less-Eventually
    (trees c.args.nodes.now) c.args.at c.get.result.now c.get.ensures.parts c.in-Eventually.part c.in-Eventually.is in
    (omega (arith, less, c.decreases), omega (arith, less, c.requires))

pub layer_with-returns-in_ok-id-in-Eventually-clause-fits : goal.layer_with-returns-in_ok-id-in-Eventually-clause-fits
layer_with-returns-in_ok-id-in-Eventually-clause-fits t c = fits-Eventually
    (trees c.put_in-in-Eventually.new.nodes) c.in_ok-id-in-Eventually.id _ c.in_ok-id-in-Eventually.ensures.number

pub layer_with-returns-in_ok-id-in-Eventually-clause-tree : goal.layer_with-returns-in_ok-id-in-Eventually-clause-tree
layer_with-returns-in_ok-id-in-Eventually-clause-tree t c = put-Eventually (trees c.args.nodes.now)
    (trees c.put_in-in-Eventually.new.nodes) c.args.at c.get.result.now c.get.ensures.tree
    (assignment_of c.args.bindings.now) c.in-Eventually.part c.in_ok-id-in-Eventually.id c.in-Eventually.is
    c.in_ok-id-in-Eventually.ensures.number

pub layer_with-put_in-requires-in-Within : goal.layer_with-put_in-requires-in-Within
layer_with-put_in-requires-in-Within t c = let less = less-Within (trees c.args.nodes.now) c.args.at c.get.result.now c.get.ensures.parts
    c.in-Within.steps c.in-Within.part c.in-Within.is in (omega (arith, less, c.decreases), omega (arith, less, c.requires))

pub layer_with-returns-in_ok-id-in-Within-clause-fits : goal.layer_with-returns-in_ok-id-in-Within-clause-fits
layer_with-returns-in_ok-id-in-Within-clause-fits t c = fits-Within (trees c.put_in-in-Within.new.nodes) c.in-Within.steps
    c.in_ok-id-in-Within.id _ c.in_ok-id-in-Within.ensures.number

pub layer_with-returns-in_ok-id-in-Within-clause-tree : goal.layer_with-returns-in_ok-id-in-Within-clause-tree
layer_with-returns-in_ok-id-in-Within-clause-tree t c = put-Within (trees c.args.nodes.now)
    (trees c.put_in-in-Within.new.nodes) c.args.at c.get.result.now c.get.ensures.tree
    (assignment_of c.args.bindings.now) c.in-Within.steps c.in-Within.part c.in_ok-id-in-Within.id c.in-Within.is
    c.in_ok-id-in-Within.ensures.number

pub layer_with-put_in-requires-in-During : goal.layer_with-put_in-requires-in-During
layer_with-put_in-requires-in-During t c = let less = less-During (trees c.args.nodes.now) c.args.at c.get.result.now c.get.ensures.parts
    c.in-During.steps c.in-During.part c.in-During.is in (omega (arith, less, c.decreases), omega (arith, less, c.requires))

pub layer_with-returns-in_ok-id-in-During-clause-fits : goal.layer_with-returns-in_ok-id-in-During-clause-fits
layer_with-returns-in_ok-id-in-During-clause-fits t c = fits-During (trees c.put_in-in-During.new.nodes) c.in-During.steps
    c.in_ok-id-in-During.id _ c.in_ok-id-in-During.ensures.number

pub layer_with-returns-in_ok-id-in-During-clause-tree : goal.layer_with-returns-in_ok-id-in-During-clause-tree
layer_with-returns-in_ok-id-in-During-clause-tree t c = put-During (trees c.args.nodes.now)
    (trees c.put_in-in-During.new.nodes) c.args.at c.get.result.now c.get.ensures.tree
    (assignment_of c.args.bindings.now) c.in-During.steps c.in-During.part c.in_ok-id-in-During.id c.in-During.is
    c.in_ok-id-in-During.ensures.number

pub layer_with-put_in_all-requires : goal.layer_with-put_in_all-requires
layer_with-put_in_all-requires t c = (
  omega (arith, c.decreases),
  (
    c.requires,
    subst (λ (ids : List ℕ). all_below c.args.at ids ≡ true) (sym c.in_ok-parts-in-And.ensures.same)
        (below-And (trees c.args.nodes.now) c.args.at c.get.result.now c.get.ensures.parts c.in-And.parts c.in-And.is),
  ),
)

pub layer_with-returns-in_ok-ids-in-And-clause-fits : goal.layer_with-returns-in_ok-ids-in-And-clause-fits
layer_with-returns-in_ok-ids-in-And-clause-fits t c = fits-And (length (trees c.put_in_all.new.nodes)) c.in_ok-ids-in-And.ids ∙
    c.in_ok-ids-in-And.ensures.below

pub layer_with-returns-in_ok-ids-in-And-clause-tree : goal.layer_with-returns-in_ok-ids-in-And-clause-tree
layer_with-returns-in_ok-ids-in-And-clause-tree t c = put-And (trees c.args.nodes.now)
    (trees c.put_in_all.new.nodes) c.args.at c.get.result.now c.get.ensures.tree
    (assignment_of c.args.bindings.now) c.in-And.parts c.in_ok-ids-in-And.ids c.in-And.is
    (c.in_ok-ids-in-And.ensures.numbers ∙ ap (λ (ids : List ℕ). map (substituted (assignment_of c.args.bindings.now))
    (trees_at (trees c.args.nodes.now) ids)) c.in_ok-parts-in-And.ensures.same)

pub layer_with-put_in_all-requires-in-Or : goal.layer_with-put_in_all-requires-in-Or
layer_with-put_in_all-requires-in-Or t c = (
  omega (arith, c.decreases),
  (
    c.requires,
    subst (λ (ids : List ℕ). all_below c.args.at ids ≡ true) (sym c.in_ok-parts-in-Or.ensures.same)
        (below-Or (trees c.args.nodes.now) c.args.at c.get.result.now c.get.ensures.parts c.in-Or.parts c.in-Or.is),
  ),
)

pub layer_with-returns-in_ok-ids-in-Or-clause-fits : goal.layer_with-returns-in_ok-ids-in-Or-clause-fits
layer_with-returns-in_ok-ids-in-Or-clause-fits t c = fits-Or (length (trees c.put_in_all-in-Or.new.nodes)) c.in_ok-ids-in-Or.ids ∙
    c.in_ok-ids-in-Or.ensures.below

pub layer_with-returns-in_ok-ids-in-Or-clause-tree : goal.layer_with-returns-in_ok-ids-in-Or-clause-tree
layer_with-returns-in_ok-ids-in-Or-clause-tree t c = put-Or (trees c.args.nodes.now)
    (trees c.put_in_all-in-Or.new.nodes) c.args.at c.get.result.now c.get.ensures.tree
    (assignment_of c.args.bindings.now) c.in-Or.parts c.in_ok-ids-in-Or.ids c.in-Or.is
    (c.in_ok-ids-in-Or.ensures.numbers ∙ ap (λ (ids : List ℕ). map (substituted (assignment_of c.args.bindings.now))
    (trees_at (trees c.args.nodes.now) ids)) c.in_ok-parts-in-Or.ensures.same)

pub layer_with-put_in-requires-in-ForAll : goal.layer_with-put_in-requires-in-ForAll
layer_with-put_in-requires-in-ForAll t c = let less = less-ForAll (trees c.args.nodes.now) c.args.at c.get.result.now c.get.ensures.tree
    c.get.ensures.parts c.in-ForAll.vars c.in-ForAll.bound c.in-ForAll.part c.in-ForAll.is in
    (omega (arith, less, c.decreases), omega (arith, less, c.requires))

pub layer_with-returns-in_ok-id-in-ForAll-clause-fits : goal.layer_with-returns-in_ok-id-in-ForAll-clause-fits
layer_with-returns-in_ok-id-in-ForAll-clause-fits t c = fits-ForAll (trees c.put_in-in-ForAll.new.nodes) c.in_ok-vars-in-ForAll.vars
    c.in_ok-bound-in-ForAll.bound c.in_ok-id-in-ForAll.id _ c.in_ok-id-in-ForAll.ensures.number

pub layer_with-returns-in_ok-id-in-ForAll-clause-tree : goal.layer_with-returns-in_ok-id-in-ForAll-clause-tree
layer_with-returns-in_ok-id-in-ForAll-clause-tree t c =
    put-ForAll (trees c.args.nodes.now) (trees c.put_in-in-ForAll.new.nodes) c.args.at c.get.result.now c.get.ensures.tree
    (assignment_of c.args.bindings.now) c.in-ForAll.vars c.in_ok-vars-in-ForAll.vars c.in-ForAll.bound c.in_ok-bound-in-ForAll.bound
    c.in-ForAll.part c.in_ok-id-in-ForAll.id (assignment_of c.in_ok-below-in-ForAll.below) c.in-ForAll.is
    c.in_ok-vars-in-ForAll.ensures.same
    (ap assignment_of c.in_ok-below-in-ForAll.ensures ∙ assignment_below c.in-ForAll.vars c.args.bindings.now)
    (subst (λ (bs : List Binding). c.in_ok-bound-in-ForAll.bound ≡ substituted_bound (assignment_of bs) c.in-ForAll.bound)
    c.as_slice.ensures c.in_ok-bound-in-ForAll.ensures)
    (subst (λ (bs : List Binding). slice_get (trees c.put_in-in-ForAll.new.nodes) c.in_ok-id-in-ForAll.id ≡
    Some (substituted (assignment_of bs) (tree_at (trees c.args.nodes.now) c.in-ForAll.part))) c.as_slice-in-ForAll.ensures
    c.in_ok-id-in-ForAll.ensures.number)

pub layer_with-put_in-requires-in-Exists : goal.layer_with-put_in-requires-in-Exists
layer_with-put_in-requires-in-Exists t c = let less = less-Exists (trees c.args.nodes.now) c.args.at c.get.result.now c.get.ensures.tree
    c.get.ensures.parts c.in-Exists.vars c.in-Exists.bound c.in-Exists.part c.in-Exists.is in
    (omega (arith, less, c.decreases), omega (arith, less, c.requires))

pub layer_with-returns-in_ok-id-in-Exists-clause-fits : goal.layer_with-returns-in_ok-id-in-Exists-clause-fits
layer_with-returns-in_ok-id-in-Exists-clause-fits t c = fits-Exists (trees c.put_in-in-Exists.new.nodes) c.in_ok-vars-in-Exists.vars
    c.in_ok-bound-in-Exists.bound c.in_ok-id-in-Exists.id _ c.in_ok-id-in-Exists.ensures.number

pub layer_with-returns-in_ok-id-in-Exists-clause-tree : goal.layer_with-returns-in_ok-id-in-Exists-clause-tree
layer_with-returns-in_ok-id-in-Exists-clause-tree t c =
    put-Exists (trees c.args.nodes.now) (trees c.put_in-in-Exists.new.nodes) c.args.at c.get.result.now c.get.ensures.tree
    (assignment_of c.args.bindings.now) c.in-Exists.vars c.in_ok-vars-in-Exists.vars c.in-Exists.bound c.in_ok-bound-in-Exists.bound
    c.in-Exists.part c.in_ok-id-in-Exists.id (assignment_of c.in_ok-below-in-Exists.below) c.in-Exists.is
    c.in_ok-vars-in-Exists.ensures.same
    (ap assignment_of c.in_ok-below-in-Exists.ensures ∙ assignment_below c.in-Exists.vars c.args.bindings.now)
    (subst (λ (bs : List Binding). c.in_ok-bound-in-Exists.bound ≡ substituted_bound (assignment_of bs) c.in-Exists.bound)
    c.as_slice-in-Exists.ensures c.in_ok-bound-in-Exists.ensures)
    (subst (λ (bs : List Binding). slice_get (trees c.put_in-in-Exists.new.nodes) c.in_ok-id-in-Exists.id ≡
    Some (substituted (assignment_of bs) (tree_at (trees c.args.nodes.now) c.in-Exists.part))) c.as_slice-in-Exists-2.ensures
    c.in_ok-id-in-Exists.ensures.number)

pub layer_with-put_in-requires-in-Until : goal.layer_with-put_in-requires-in-Until
layer_with-put_in-requires-in-Until t c = let less = less-Until (trees c.args.nodes.now) c.args.at c.get.result.now c.get.ensures.parts
    c.in-Until.first c.in-Until.second c.in-Until.is in (omega (arith, less.0, c.decreases), omega (arith, less.0, c.requires))

pub layer_with-put_in-requires-in-Until-2 : goal.layer_with-put_in-requires-in-Until-2
layer_with-put_in-requires-in-Until-2 t c = let less = less-Until (trees c.args.nodes.now) c.args.at c.get.result.now c.get.ensures.parts
    c.in-Until.first c.in-Until.second c.in-Until.is in (
      omega (arith, less.1, c.decreases),
      longer (trees c.args.nodes.now) (trees c.put_in-in-Until.new.nodes) c.in_ok-left-in-Until.ensures.kept c.in-Until.second
          (let l = less.1 in let r = c.requires in omega arith),
    )

pub layer_with-returns-in_ok-right-in-Until-clause-fits : goal.layer_with-returns-in_ok-right-in-Until-clause-fits
layer_with-returns-in_ok-right-in-Until-clause-fits t c = fits-Until (trees c.put_in-in-Until-2.new.nodes) c.in_ok-left-in-Until.left
    c.in_ok-right-in-Until.right _ _ (c.in_ok-right-in-Until.ensures.kept _ _ c.in_ok-left-in-Until.ensures.number)
    c.in_ok-right-in-Until.ensures.number

pub layer_with-returns-in_ok-right-in-Until-clause-tree : goal.layer_with-returns-in_ok-right-in-Until-clause-tree
layer_with-returns-in_ok-right-in-Until-clause-tree t c = let less = less-Until
    (trees c.args.nodes.now) c.args.at c.get.result.now c.get.ensures.parts c.in-Until.first c.in-Until.second c.in-Until.is in
    put-Until (trees c.args.nodes.now) (trees c.put_in-in-Until-2.new.nodes) c.args.at c.get.result.now c.get.ensures.tree
    (assignment_of c.args.bindings.now) c.in-Until.first c.in-Until.second c.in_ok-left-in-Until.left c.in_ok-right-in-Until.right
    c.in-Until.is (c.in_ok-right-in-Until.ensures.kept _ _ c.in_ok-left-in-Until.ensures.number)
    (subst (λ (f : FormulaTree). slice_get (trees c.put_in-in-Until-2.new.nodes) c.in_ok-right-in-Until.right ≡
    Some (substituted (assignment_of c.args.bindings.now) f)) (stays (trees c.args.nodes.now)
    (trees c.put_in-in-Until.new.nodes) c.in_ok-left-in-Until.ensures.kept c.in-Until.second
    (let l = less.1 in let r = c.requires in omega arith)) c.in_ok-right-in-Until.ensures.number)

pub layer_with-returns-in-True-clause-fits : goal.layer_with-returns-in-True-clause-fits
layer_with-returns-in-True-clause-fits t c = fits-True _

pub layer_with-returns-in-True-clause-tree : goal.layer_with-returns-in-True-clause-tree
layer_with-returns-in-True-clause-tree t c = put-True (trees c.args.nodes.now)
    (trees c.args.nodes.now) c.args.at c.get.result.now c.get.ensures.tree (assignment_of c.args.bindings.now) c.in-True.is

pub layer_with-returns-in-False-clause-fits : goal.layer_with-returns-in-False-clause-fits
layer_with-returns-in-False-clause-fits t c = fits-False _

pub layer_with-returns-in-False-clause-tree : goal.layer_with-returns-in-False-clause-tree
layer_with-returns-in-False-clause-tree t c = put-False (trees c.args.nodes.now)
    (trees c.args.nodes.now) c.args.at c.get.result.now c.get.ensures.tree (assignment_of c.args.bindings.now) c.in-False.is

pub layer_with-returns-in_ok-g-in-Basic-clause-fits : goal.layer_with-returns-in_ok-g-in-Basic-clause-fits
layer_with-returns-in_ok-g-in-Basic-clause-fits t c = fits-put (trees c.args.nodes.now)
    (trees c.args.nodes.now) c.args.at c.get.result.now c.get.ensures.tree c.get.ensures.parts
    (assignment_of c.args.bindings.now) c.in-Basic.f c.in_ok-g-in-Basic.g c.in-Basic.is c.in_ok-g-in-Basic.ensures.substituted

pub layer_with-returns-in_ok-g-in-Basic-clause-tree : goal.layer_with-returns-in_ok-g-in-Basic-clause-tree
layer_with-returns-in_ok-g-in-Basic-clause-tree t c = put-Basic (trees c.args.nodes.now)
    (trees c.args.nodes.now) c.args.at c.get.result.now c.get.ensures.tree
    (assignment_of c.args.bindings.now) c.in-Basic.f c.in_ok-g-in-Basic.g c.in-Basic.is c.in_ok-g-in-Basic.ensures.substituted

pub put_in_all-put_in-requires : goal.put_in_all-put_in-requires
put_in_all-put_in-requires t c =
    let items = subst (λ (ids : List ℕ). all_below c.args.at ids ≡ true) (sym c.as_slice-part-items.ensures) c.requires.below in
    let less = at-below c.args.at c.as_slice-part-items.result.now c.loop-part.part-index items c.loop-part-test.true in (
      omega (arith, less, c.decreases),
      longer (trees c.args.nodes.now) (trees c.loop-part.nodes) c.loop-part.invariant.kept _
          (let i = c.requires.inside in omega arith),
    )

pub put_in_all-loop-part-preserved : goal.put_in_all-loop-part-preserved
put_in_all-loop-part-preserved t c =
    let items = subst (λ (ids : List ℕ). all_below c.args.at ids ≡ true) (sym c.as_slice-part-items.ensures) c.requires.below in
    let less = at-below c.args.at c.as_slice-part-items.result.now c.loop-part.part-index items c.loop-part-test.true in
    let us = trees c.loop-part.nodes in
    let vs = trees c.put_in.new.nodes in
    let a = c.in_ok-id.ensures in
    let was = c.loop-part.invariant in
    record {
      kept = λ i u h. a.kept i u (was.kept i u h);
      below = subst (λ (ids : List ℕ). all_below (length vs) ids ≡ true) (sym c.in_ok-push.ensures)
          (push-below vs c.loop-part.ids c.in_ok-id.id _ (keeps-below us vs a.kept c.loop-part.ids was.below) a.number);
      same = ap (trees_at vs) c.in_ok-push.ensures ∙ parts-more (assignment_of c.args.bindings.now)
          (trees c.args.nodes.now) us vs was.kept c.loop-part.ids c.as_slice-part-items.result.now c.loop-part.part-index c.in_ok-id.id
          c.loop-part-test.true (let i = c.requires.inside in omega arith)
          (keeps-all us vs a.kept c.loop-part.ids was.below ∙ was.same) a.number;
    }
