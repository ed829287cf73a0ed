use Rattle.std.proofs.Common.{IfSome, sym, subst}
use Rattle.tl_depth.specs.Expansions.{IsListed}
use Rattle.tl_depth.proofs.Remembering.{right-set, right-at, right-entered, knows-actions}
use Rattle.tl_depth.proofs.expansions.Expansions.take_actions.Goals as goal

pub returns-clause-stay : goal.returns-clause-stay
returns-clause-stay c p task kept right =
    let now = c.in_ok-reach.ensures.stay p task kept right in
    right-set p task kept c.reach.new.self.entries.items c.args.at c.enter.new.self
    (right-entered p task kept c.args.at c.index_mut.result.now c.enter.new.self c.enter.ensures.actions c.enter.ensures.arrivals
    (right-at p task kept c.reach.new.self.entries.items c.args.at c.index_mut.result.now c.in_ok-reach.ensures.room
    c.index_mut.ensures.value now)) now

pub returns-clause-actions : goal.returns-clause-actions
returns-clause-actions c = knows-actions c.args.self.now c.args.at c.enter.result (λ p task kept right.
    let now = c.in_ok-reach.ensures.stay p task kept right in
    subst (λ o. IfSome o (IsListed p task kept c.args.at)) (sym c.enter.ensures.result)
    (right-at p task kept c.reach.new.self.entries.items c.args.at c.index_mut.result.now c.in_ok-reach.ensures.room
    c.index_mut.ensures.value now).actions)
