use Rattle.std.proofs.Common.{◌≡◌, ◌<◌, true, length, arith, sym, ap, ◌∙◌, subst}
use Rattle.std.specs.List.{sum_by}
use Rattle.tl_nodes.specs.Fits.{all_below}
use Rattle.tl_nodes.specs.Joins.{breadth}
use Rattle.tl_nodes.specs.NodeTrees.{tree_at}
use Rattle.tl_nodes.specs.Numbers.{trees}
use Rattle.tl_nodes.proofs.OpenedJoins.{leaves}
use Rattle.tl_nodes.proofs.JoinWalk.{begun-walk, taken-walk, skipped-walk, opened-walk, opened-less, popped-less, top-inside, walked}
use Rattle.tl_nodes.proofs.nodes.Nodes.flatten.Goals as goal

pub loop-id-init : goal.loop-id-init
loop-id-init c =
    begun-walk (trees c.args.self.now) c.args.junction c.args.parts.now _ _ _ _ c.requires c.new-todo.ensures.items
    c.in_ok-push_turned.ensures c.new-opened.ensures.empty c.new-flat.ensures.items

pub nested-requires : goal.nested-requires
nested-requires c = top-inside _ _ _ _ _ _ c.in-Some.ensures.items _ _ c.loop-id.invariant

pub loop-id-smaller-in-Continue-branch-3 : goal.loop-id-smaller-in-Continue-branch-3
loop-id-smaller-in-Continue-branch-3 c =
    opened-less (trees c.args.self.now) _ _ c.as_slice.result.now _ c.in-Some.id c.in-Some.ensures.items
    c.in_ok-push_turned-in-Some-nested.ensures
    (subst (λ is. sum_by (λ i. breadth (tree_at (trees c.args.self.now) i)) is < breadth (tree_at (trees c.args.self.now) c.in-Some.id))
    (sym c.as_slice.ensures) c.in-Some-nested.ensures.smaller)

pub loop-id-preserved-in-Continue-branch-3 : goal.loop-id-preserved-in-Continue-branch-3
loop-id-preserved-in-Continue-branch-3 c =
    let a = c.in_ok-insert-in-Some-nested.ensures in
    opened-walk _ _ _ _ _ c.in-Some.id c.in-Some.ensures.items _ _ c.loop-id.invariant _ _ a.keys a.added _ _ c.if-branch.true
    (c.in-Some-nested.ensures.parts ∙ ap (leaves (trees c.args.self.now) c.args.junction) (sym c.as_slice.ensures))
    (subst (λ is. all_below c.in-Some.id is ≡ true) (sym c.as_slice.ensures) c.in-Some-nested.ensures.below)
    c.in_ok-push_turned-in-Some-nested.ensures

pub loop-id-preserved-else-branch : goal.loop-id-preserved-else-branch
loop-id-preserved-else-branch c =
    let a = c.in_ok-insert-in-Some-nested.ensures in
    skipped-walk _ _ _ _ _ c.in-Some.id c.in-Some.ensures.items _ _ c.loop-id.invariant _ _ a.keys a.added c.if-branch.false

pub loop-id-smaller : goal.loop-id-smaller
loop-id-smaller c = popped-less (trees c.args.self.now) _ _ c.in-Some.id c.in-Some.ensures.items

pub loop-id-preserved : goal.loop-id-preserved
loop-id-preserved c = taken-walk _ _ _ _ _ c.in-Some.id c.in-Some.ensures.items _ _ c.loop-id.invariant _ c.in_ok-push-in-None.ensures.items
    c.in-None.ensures.parts

pub returns : goal.returns
returns c =
    let w = c.loop-id.invariant in
    let e : length c.loop-id.todo.items ≡ 0 = omega (arith, c.in_default.ensures.cases.0) in
    record { below = w.done; flat = walked _ _ _ _ _ _ e w }
