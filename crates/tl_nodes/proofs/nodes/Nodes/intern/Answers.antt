use Rattle.std.proofs.Common.{refl, rules, subst, arith, sym, ap, ◌∙◌, []}
use Rattle.tl_nodes.proofs.nodes.Nodes.intern.Goals as goal
use Rattle.tl_nodes.specs.Fits.{EachFits}
use Rattle.tl_nodes.specs.NodeTrees.{trees_of_nodes}
use Rattle.tl_nodes.proofs.Insertion.{absent, pushed, unmoved, number, keeps, same-trees, more-trees, below-more, one-more, constants-more}
use Rattle.tl_nodes.proofs.Insertion.{flags-more, flags-pushed, where_refused}
use Rattle.tl_nodes.proofs.FilledTrees.{filled-stay}
use Rattle.tl_nodes.proofs.OneMoreNode.{fresh}

pub returns-in-Err-clause-kept : goal.returns-in-Err-clause-kept
returns-in-Err-clause-kept c = λ i t h. h

pub returns-in-Err-clause-refused : goal.returns-in-Err-clause-refused
returns-in-Err-clause-refused c = search rules

pub returns-in_err-at-clause-kept : goal.returns-in_err-at-clause-kept
returns-in_err-at-clause-kept c = keeps _ _ [] (same-trees _ _ c.in_err-at.ensures.err)

pub returns-in_err-at-clause-refused : goal.returns-in_err-at-clause-refused
returns-in_err-at-clause-refused c = where_refused (ap trees_of_nodes c.in_err-at.ensures.err) c.from_residual.result

pub invariant_of-self-then-is_new : goal.invariant_of-self-then-is_new
invariant_of-self-then-is_new c =
    let a = c.in_ok-at.ensures in
    let e = pushed _ _ _ _ a.keys a.added c.if-is_new.true in
    let s = c.args.self.now in
    record {
      below = below-more _ _ _ e c.requires s.below;
      one_to_one = one-more _ _ _ e c.requires s.below s.one_to_one (absent s.table.keys _ c.args.node _ a.keys a.added c.if-is_new.true);
      constants = constants-more _ _ _ e c.requires s.constants;
      flags = flags-pushed s.temporal.items _ _ _ _ _ c.args.node c.reserve.ensures.items c.as_slice.ensures.value
          c.temporal_of-flag.ensures
          (c.push.ensures.succeeds (omega (arith, c.in-Ok.ensures.ok))) c.push.ensures.items
          ∙ flags-more _ _ _ e c.requires s.temporal.items s.flags;
      places = s.places;
      filled_is = filled-stay _ _ (keeps _ _ _ (more-trees _ _ _ e)) s.filled.items s.filled_is;
    }

pub returns-then-is_new-clause-kept : goal.returns-then-is_new-clause-kept
returns-then-is_new-clause-kept c =
    let a = c.in_ok-at.ensures in
    keeps _ _ _ (more-trees _ _ _ (pushed _ _ _ _ a.keys a.added c.if-is_new.true))

pub returns-then-is_new-clause-number : goal.returns-then-is_new-clause-number
returns-then-is_new-clause-number c =
    let a = c.in_ok-at.ensures in
    let e = pushed _ _ _ _ a.keys a.added c.if-is_new.true in
    number _ _ _ (more-trees _ _ _ e) (below-more _ _ _ e c.requires c.args.self.now.below) _ _ c.requires _ a.stored.1 a.stored.2

pub returns-else-is_new-clause-kept : goal.returns-else-is_new-clause-kept
returns-else-is_new-clause-kept c =
    let a = c.in_ok-at.ensures in
    keeps _ _ [] (same-trees _ _ (unmoved _ _ _ _ a.keys a.added c.if-is_new.false))

pub returns-else-is_new-clause-number : goal.returns-else-is_new-clause-number
returns-else-is_new-clause-number c =
    let a = c.in_ok-at.ensures in
    let e = unmoved _ _ _ _ a.keys a.added c.if-is_new.false in
    number _ _ [] (same-trees _ _ e) (subst EachFits (sym e) c.args.self.now.below) _ _ c.requires _ a.stored.1 a.stored.2

pub returns-in-Err-clause-known : goal.returns-in-Err-clause-known
returns-in-Err-clause-known c = λ i h. refl

pub returns-in_err-at-clause-known : goal.returns-in_err-at-clause-known
returns-in_err-at-clause-known c = λ i h. ap trees_of_nodes c.in_err-at.ensures.err

pub returns-then-is_new-clause-known : goal.returns-then-is_new-clause-known
returns-then-is_new-clause-known c =
    let a = c.in_ok-at.ensures in
    let s = c.args.self.now in
    λ i h. absurd (fresh s.table.keys s.below s.one_to_one c.args.node c.requires
    (absent s.table.keys _ c.args.node _ a.keys a.added c.if-is_new.true) i h)

pub returns-else-is_new-clause-known : goal.returns-else-is_new-clause-known
returns-else-is_new-clause-known c =
    let a = c.in_ok-at.ensures in
    λ i h. ap trees_of_nodes (unmoved _ _ _ _ a.keys a.added c.if-is_new.false)
