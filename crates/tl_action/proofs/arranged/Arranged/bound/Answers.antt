use Rattle.std.proofs.Common.{rules, ◌<◌, List, length, ap, arith}
use Rattle.tl_action.proofs.BoundOrders.{moved-length, at-first, at-before, at-after}
use Rattle.tl_syntax.specs.declared.bound.Bound.{Bound}
use Rattle.tl_action.proofs.arranged.Arranged.bound.Goals as goal

pub bounds-bounds-j-else-j-self : goal.bounds-bounds-j-else-j-self
bounds-bounds-j-else-j-self c =
    let many = moved-length c.args.self.now.operator.now.bounds c.args.self.now.first in
    let same = ap (λ (bs : List Bound). length bs) c.as_slice-bounds.ensures in
    omega (arith, many, same, c.requires)

pub offset_bounds-bounds-j-else-j-self : goal.offset_bounds-bounds-j-else-j-self
offset_bounds-bounds-j-else-j-self c =
    let many = moved-length c.args.self.now.operator.now.bounds c.args.self.now.first in
    let same = ap (λ (bs : List Bound). length bs) c.as_slice-bounds.ensures in
    let below : c.args.j < length c.as_slice-bounds.result.now = omega (arith, many, same, c.requires) in
    search rules

pub returns-then-j-eq0 : goal.returns-then-j-eq0
returns-then-j-eq0 c = at-first c.args.self.now c.as_slice-bounds.result.now c.as_slice-bounds.ensures c.args.j c.index-bounds-self.result
    c.requires c.if-j-eq0.true c.index-bounds-self.is

pub returns-then-j-self : goal.returns-then-j-self
returns-then-j-self c =
    let some : 0 < c.args.j = omega (arith, c.if-j-eq0.false) in
    at-before c.args.self.now c.as_slice-bounds.result.now c.as_slice-bounds.ensures c.args.j c.index-bounds-j.result c.requires some
    c.if-j-self.true c.index-bounds-j.is

pub returns-else-j-self : goal.returns-else-j-self
returns-else-j-self c = at-after c.args.self.now c.as_slice-bounds.result.now c.as_slice-bounds.ensures c.args.j
    c.index-bounds-j-else-j-self.result c.requires c.if-j-self.false c.index-bounds-j-else-j-self.is
