use Rattle.std.proofs.Common.{subst}
use Rattle.tl_search.specs.Kept.{AreKept}
use Rattle.tl_search.specs.PairGraph.{pair_graph}
use Rattle.tl_search.proofs.ListLaws.{get-one}
use Rattle.tl_cost.specs.Ways.{IsMet}
use Rattle.tl_cost.proofs.Arriving.{fresh-unlisted, fresh-spent, fresh-turn, fresh-stay, fresh-extends, its-way, seen-met, seen-turn}
use Rattle.tl_cost.proofs.Arriving.{seen-stay, seen-opens, stay-settled, pruned-turn}
use Rattle.tl_cost.proofs.Faulting.{turn-inside, turn-linked, fault-named, fault-acting, fault-after, fault-after-named}
use Rattle.tl_cost.proofs.turn.UniformCost.arrive.Goals as goal

pub returns-then-k-self-clause-outcome : goal.returns-then-k-self-clause-outcome
returns-then-k-self-clause-outcome g c =
    let t = c.requires.turn.turn in
    let new = g.S.SearchSpace.kept c.child.new.self in
    fresh-spent _ _ _ _ _ _ _ _ _ t new c.in-Ok-Fresh.k ((rw c.in-Ok-Fresh.field-0-is at c.in-Ok-Fresh.ensures.arrival) t.pair t.is_at.pair)
    (subst (λ p. AreKept (pair_graph p) new) c.child.ensures.same.problem c.child.ensures.kept) c.if-k-self.true

pub returns-then-k-self-clause-grows : goal.returns-then-k-self-clause-grows
returns-then-k-self-clause-grows g c =
    let t = c.requires.turn.turn in
    fresh-extends (g.S.SearchSpace.kept c.args.space.now) (g.S.SearchSpace.kept c.child.new.self) _ _ c.in-Ok-Fresh.k
    ((rw c.in-Ok-Fresh.field-0-is at c.in-Ok-Fresh.ensures.arrival) t.pair t.is_at.pair)

pub returns-in_err-way-in-Ok-Fresh-clause-grows : goal.returns-in_err-way-in-Ok-Fresh-clause-grows
returns-in_err-way-in-Ok-Fresh-clause-grows g c =
    let t = c.requires.turn.turn in
    fresh-extends (g.S.SearchSpace.kept c.args.space.now) (g.S.SearchSpace.kept c.child.new.self) _ _ c.in-Ok-Fresh.k
    ((rw c.in-Ok-Fresh.field-0-is at c.in-Ok-Fresh.ensures.arrival) t.pair t.is_at.pair)

pub returns-in_err-add-in-Ok-Fresh-clause-grows : goal.returns-in_err-add-in-Ok-Fresh-clause-grows
returns-in_err-add-in-Ok-Fresh-clause-grows g c =
    let t = c.requires.turn.turn in
    fresh-extends (g.S.SearchSpace.kept c.args.space.now) (g.S.SearchSpace.kept c.child.new.self) _ _ c.in-Ok-Fresh.k
    ((rw c.in-Ok-Fresh.field-0-is at c.in-Ok-Fresh.ensures.arrival) t.pair t.is_at.pair)

pub returns-in_ok-add-in-Ok-Fresh-clause-grows : goal.returns-in_ok-add-in-Ok-Fresh-clause-grows
returns-in_ok-add-in-Ok-Fresh-clause-grows g c =
    let t = c.requires.turn.turn in
    fresh-extends (g.S.SearchSpace.kept c.args.space.now) (g.S.SearchSpace.kept c.child.new.self) _ _ c.in-Ok-Fresh.k
    ((rw c.in-Ok-Fresh.field-0-is at c.in-Ok-Fresh.ensures.arrival) t.pair t.is_at.pair)

pub add-requires : goal.add-requires
add-requires g c = fresh-unlisted _ _ _ _ _ _ _ _ _ c.requires.turn.turn c.in_ok-way-in-Ok-Fresh.way

pub meet-requires-clause-met : goal.meet-requires-clause-met
meet-requires-clause-met g c w e =
    let t = c.requires.turn.turn in
    subst (λ u. IsMet c.args.self.now.costs.now c.args.found.now u c.args.a.now c.in-Ok-Seen.k)
    (get-one c.args.found.now.ways.items c.args.at t.way w t.is_at.way e)
    (seen-met _ _ _ _ _ _ _ _ _ t (g.S.SearchSpace.kept c.child.new.self) c.in-Ok-Seen.k
    ((rw c.in-Ok-Seen.field-0-is at c.in-Ok-Seen.ensures.arrival) t.pair t.is_at.pair))

pub range_at-requires-clause-at : goal.range_at-requires-clause-at
range_at-requires-clause-at g c = turn-inside _ _ _ _ _ _ _ _ c.requires.turn.turn

pub range_at-requires-clause-linked : goal.range_at-requires-clause-linked
range_at-requires-clause-linked g c = turn-linked _ _ _ _ _ _ _ _ c.requires.turn.turn

pub range_after-requires-clause-at : goal.range_after-requires-clause-at
range_after-requires-clause-at g c = turn-inside _ _ _ _ _ _ _ _ c.requires.turn.turn

pub range_after-requires-clause-linked : goal.range_after-requires-clause-linked
range_after-requires-clause-linked g c = turn-linked _ _ _ _ _ _ _ _ c.requires.turn.turn

pub returns-in_ok-add-in-Ok-Fresh-clause-outcome : goal.returns-in_ok-add-in-Ok-Fresh-clause-outcome
returns-in_ok-add-in-Ok-Fresh-clause-outcome g c rest t =
    let new = g.S.SearchSpace.kept c.child.new.self in
    fresh-turn _ _ _ _ _ _ _ _ rest t new c.in-Ok-Fresh.k ((rw c.in-Ok-Fresh.field-0-is at c.in-Ok-Fresh.ensures.arrival) t.pair
    t.is_at.pair) c.add.new.self c.in_ok-way-in-Ok-Fresh.way c.in_ok-add-in-Ok-Fresh.ensures.ways c.in_ok-add-in-Ok-Fresh.ensures.adds
    (c.in_ok-way-in-Ok-Fresh.ensures t.way t.is_at.way)
    (subst (λ p. AreKept (pair_graph p) new) c.child.ensures.same.problem c.child.ensures.kept) c.if-k-self.false
    c.in_ok-add-in-Ok-Fresh.ensures.len c.requires.named

pub returns-in_ok-add-in-Ok-Fresh-clause-stay : goal.returns-in_ok-add-in-Ok-Fresh-clause-stay
returns-in_ok-add-in-Ok-Fresh-clause-stay g c =
    let t = c.requires.turn.turn in
    let new = g.S.SearchSpace.kept c.child.new.self in
    stay-settled (g.S.SearchSpace.kept c.args.space.now) new c.args.found.now c.add.new.self t.ongoing.as_many
    (fresh-stay _ _ _ _ _ _ _ _ _ t new c.in-Ok-Fresh.k ((rw c.in-Ok-Fresh.field-0-is at c.in-Ok-Fresh.ensures.arrival) t.pair
    t.is_at.pair) c.add.new.self c.in_ok-way-in-Ok-Fresh.way c.in_ok-add-in-Ok-Fresh.ensures.ways c.in_ok-add-in-Ok-Fresh.ensures.adds
    (c.in_ok-way-in-Ok-Fresh.ensures t.way t.is_at.way))

pub returns-in_ok-meet-in-Ok-Seen-clause-outcome : goal.returns-in_ok-meet-in-Ok-Seen-clause-outcome
returns-in_ok-meet-in-Ok-Seen-clause-outcome g c rest t =
    let new = g.S.SearchSpace.kept c.child.new.self in
    let h = (rw c.in-Ok-Seen.field-0-is at c.in-Ok-Seen.ensures.arrival) t.pair t.is_at.pair in
    let u = its-way _ _ _ _ _ _ _ _ rest t new c.in-Ok-Seen.k h in
    seen-turn _ _ _ _ _ _ _ _ rest t new c.in-Ok-Seen.k h c.meet.new.found (c.in_ok-meet-in-Ok-Seen.ensures t.way u.0 t.is_at.way u.1)
    (subst (λ p. AreKept (pair_graph p) new) c.child.ensures.same.problem c.child.ensures.kept) c.requires.named

pub returns-in_ok-meet-in-Ok-Seen-clause-opens : goal.returns-in_ok-meet-in-Ok-Seen-clause-opens
returns-in_ok-meet-in-Ok-Seen-clause-opens g c =
    let t = c.requires.turn.turn in
    let new = g.S.SearchSpace.kept c.child.new.self in
    let h = (rw c.in-Ok-Seen.field-0-is at c.in-Ok-Seen.ensures.arrival) t.pair t.is_at.pair in
    let u = its-way _ _ _ _ _ _ _ _ _ t new c.in-Ok-Seen.k h in
    seen-opens _ _ _ _ _ _ _ _ _ t new c.in-Ok-Seen.k h c.meet.new.found (c.in_ok-meet-in-Ok-Seen.ensures t.way u.0 t.is_at.way u.1)

pub returns-in_ok-meet-in-Ok-Seen-clause-stay : goal.returns-in_ok-meet-in-Ok-Seen-clause-stay
returns-in_ok-meet-in-Ok-Seen-clause-stay g c =
    let t = c.requires.turn.turn in
    let new = g.S.SearchSpace.kept c.child.new.self in
    let h = (rw c.in-Ok-Seen.field-0-is at c.in-Ok-Seen.ensures.arrival) t.pair t.is_at.pair in
    let u = its-way _ _ _ _ _ _ _ _ _ t new c.in-Ok-Seen.k h in
    stay-settled (g.S.SearchSpace.kept c.args.space.now) new c.args.found.now c.meet.new.found t.ongoing.as_many
    (seen-stay _ _ _ _ _ _ _ _ _ t new c.in-Ok-Seen.k h c.meet.new.found (c.in_ok-meet-in-Ok-Seen.ensures t.way u.0 t.is_at.way u.1))

pub returns-in-Ok-Pruned-clause-outcome : goal.returns-in-Ok-Pruned-clause-outcome
returns-in-Ok-Pruned-clause-outcome g c rest t = pruned-turn _ _ _ _ _ _ _ _ rest t (g.S.SearchSpace.kept c.child.new.self)
    ((rw c.in-Ok-Pruned.field-0-is at c.in-Ok-Pruned.ensures.arrival) t.pair t.is_at.pair)

pub returns-in-Err-RangeHere-clause-fault : goal.returns-in-Err-RangeHere-clause-fault
returns-in-Err-RangeHere-clause-fault g c =
    let t = c.requires.turn.turn in
    fault-acting _ _ _ _ _ _ _ _ t c.in-Err-RangeHere.note c.args.a.now c.range_at.result c.range_at.ensures
    ((rw c.in-Err-RangeHere.field-0-is at c.in-Err-RangeHere.ensures.cause) t.pair t.is_at.pair)

pub returns-in-Err-RangeHere-clause-path_named : goal.returns-in-Err-RangeHere-clause-path_named
returns-in-Err-RangeHere-clause-path_named g c = fault-named _ _ _ _ _ _ _ _ c.requires.turn.turn c.in-Err-RangeHere.note c.range_at.result
    c.range_at.ensures

pub returns-in-Err-RangeAfter-clause-fault : goal.returns-in-Err-RangeAfter-clause-fault
returns-in-Err-RangeAfter-clause-fault g c =
    let t = c.requires.turn.turn in
    fault-after _ _ _ _ _ _ _ _ t c.in-Err-RangeAfter.note c.args.a.now c.range_after.result c.range_after.ensures
    ((rw c.in-Err-RangeAfter.field-0-is at c.in-Err-RangeAfter.ensures.cause) t.pair t.is_at.pair)

pub returns-in-Err-RangeAfter-clause-path_named : goal.returns-in-Err-RangeAfter-clause-path_named
returns-in-Err-RangeAfter-clause-path_named g c = fault-after-named _ _ _ _ _ _ _ _ c.requires.turn.turn c.in-Err-RangeAfter.note
    c.args.a.now c.range_after.result c.range_after.ensures c.requires.named
