use Rattle.std.proofs.Common.{◌≡◌, List, Some, map, sym, ap, ◌∙◌, subst}
use Rattle.std.specs.FinMap as dict
use Rattle.tl_syntax.proofs.ListLaws.{iff-trans, iff-path}
use Rattle.tl_terms.specs.World.{World, value_at}
use Rattle.tl_rows.specs.declared.named.Named.{Named}
use Rattle.tl_rows.specs.declared.table.PlaceRow.{PlaceRow}
use Rattle.tl_rows.specs.Tables.{row_cmp, AreRows, place_row, place_table, place_tables}
use Rattle.tl_world.proofs.Change as change
use Rattle.tl_rows.proofs.Lookup.{at-table, no-table, rows-at, get-map_of, row_total}
use Rattle.tl_rows.proofs.Lent.{row_ties, entry-among, filled-length}
use Rattle.tl_world.proofs.Lent.{place-rows-rise}
use Rattle.tl_terms.proofs.TuplesRise.{keys-rise}
use Rattle.tl_world.proofs.world.World.places.Goals as goal

pub returns-in-Ok-clause-places : goal.returns-in-Ok-clause-places
returns-in-Ok-clause-places c a v =
    let found = change.found-at place_row _ c.self.inside.places.items c.args.fun c.in-Ok.i c.index-t.result.now c.as_slice.ensures.value
    c.self.invariant.0.1 c.in-Ok.ensures.range c.in-Ok.ensures.place c.index-t.ensures in
    let held = c.as_ref.ensures ∙ ap (λ (u : Named (List PlaceRow)). u.rows.value) found.is in
    let rows = subst (λ rows. AreRows (map place_row rows)) (sym held)
    (rows-at place_table c.self.inside.places.items c.in-Ok.i c.index-t.result.now found.below c.self.invariant.0.1.1) in
    let same : value_at c.args.self.now (c.args.fun, a) ≡ dict.find row_cmp a (map place_row c.as_ref.result.now) =
    sym (ap (λ (w : World). value_at w (c.args.fun, a)) c.self.view_is)
    ∙ (get-map_of (place_tables c.self.inside.places.items) (c.args.fun, a) c.self.invariant.0.1
    ∙ (at-table place_table c.self.inside.places.items c.args.fun a c.in-Ok.i c.index-t.result.now c.self.invariant.0.1 found.below
    found.tie
    ∙ ap (λ rows. dict.find row_cmp a (map place_row rows)) (sym held))) in
    iff-trans (entry-among row_total row_ties (map place_row c.as_ref.result.now)
    (keys-rise row_cmp (map place_row c.as_ref.result.now) rows.1) a v) (iff-path (λ o. o ≡ Some v) (sym same))

pub returns-in-Ok-clause-order : goal.returns-in-Ok-clause-order
returns-in-Ok-clause-order c =
    let found = change.found-at place_row _ c.self.inside.places.items c.args.fun c.in-Ok.i c.index-t.result.now c.as_slice.ensures.value
    c.self.invariant.0.1 c.in-Ok.ensures.range c.in-Ok.ensures.place c.index-t.ensures in
    let held = c.as_ref.ensures ∙ ap (λ (u : Named (List PlaceRow)). u.rows.value) found.is in
    place-rows-rise c.as_ref.result.now (subst (λ rows. AreRows (map place_row rows)) (sym held)
    (rows-at place_table c.self.inside.places.items c.in-Ok.i c.index-t.result.now found.below c.self.invariant.0.1.1)).1

pub returns-in-Ok-clause-filled : goal.returns-in-Ok-clause-filled
returns-in-Ok-clause-filled c =
    let found = change.found-at place_row _ c.self.inside.places.items c.args.fun c.in-Ok.i c.index-t.result.now c.as_slice.ensures.value
    c.self.invariant.0.1 c.in-Ok.ensures.range c.in-Ok.ensures.place c.index-t.ensures in
    let held = c.as_ref.ensures ∙ ap (λ (u : Named (List PlaceRow)). u.rows.value) found.is in
    filled-length place_row c.as_ref.result.now (subst (λ rows. AreRows (map place_row rows)) (sym held)
    (rows-at place_table c.self.inside.places.items c.in-Ok.i c.index-t.result.now found.below c.self.invariant.0.1.1)).0

pub returns-in-Err-clause-none : goal.returns-in-Err-clause-none
returns-in-Err-clause-none c a =
    sym (ap (λ (w : World). value_at w (c.args.fun, a)) c.self.view_is)
    ∙ (get-map_of (place_tables c.self.inside.places.items) (c.args.fun, a) c.self.invariant.0.1
    ∙ no-table place_table c.self.inside.places.items c.args.fun a c.in-Err.field-0 c.self.invariant.0.1
    (rw c.as_slice.ensures.value at c.in-Err.ensures.place))
