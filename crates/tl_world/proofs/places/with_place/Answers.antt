use Rattle.std.proofs.Common.{T, ◌≡◌, ℕ, ◌<◌, ◌≤◌, List, [], ◌∷◌, map, length, get_or, Equal, sym, ap, ◌∙◌, subst, refl}
use Rattle.std.proofs.lemmas.List.{get_or_default}
use Rattle.std.specs.List.{insert, remove, HoldsAt}
use Rattle.std.specs.FinMap as dict
use Rattle.tl_syntax.specs.declared.value.Value.{Value}
use Rattle.tl_syntax.specs.Keys.{key_cmp}
use Rattle.tl_rows.specs.declared.named.Named.{Named}
use Rattle.tl_rows.specs.Tables.{row_cmp, InOrder, place_row, place_tables, entries_of}
use Rattle.tl_world.specs.Edits.{SetsPlace}
use Rattle.tl_rows.specs.Places.{place_set}
use Rattle.tl_world.proofs.Taken.{set-edit}
use Rattle.tl_world.proofs.Change as change
use Rattle.tl_world.proofs.Edits.{replace-put}
use Rattle.tl_rows.proofs.Going.{on-ok}
use Rattle.tl_rows.proofs.Lookup.{row_total}
use Rattle.tl_rows.proofs.PlaceLists as lists
use Rattle.tl_world.proofs.Step.{map-put}
use Rattle.tl_rows.specs.declared.table.PlaceRow.{PlaceRow}
use Rattle.tl_world.proofs.places.with_place.Goals as goal

-- a table of one row
one : (xs : List PlaceRow) (r : PlaceRow) (a : List Value) (v : Value) → xs ≡ r ∷ [] → place_row r ≡ (a, v) → map place_row xs ≡ (a, v) ∷ []
one xs r a v e is = ap (map place_row) e ∙ ap (λ x. x ∷ []) is

-- another value where the search found the place
replaced : (rows : List PlaceRow) (k : ℕ) (a : List Value) (v : Value) → T (dict.is_sorted row_cmp (map place_row rows)) → k < length rows →
    HoldsAt (λ (r : PlaceRow). row_cmp r.args a ≡ Equal) rows k
    → map place_row (place_set rows k v) ≡ dict.put row_cmp a v (map place_row rows)
replaced rows k a v rise p tied =
    let d : PlaceRow = record { args = a; value = v } in
    ap (map place_row) (lists.set-edit rows k v d p) ∙ replace-put row_total place_row a v rows k
    (record { args = (get_or rows k d).args; value = v }) d refl refl p rise (tied d)

pub returns-in_ok-insert-in-Err-clause-order : goal.returns-in_ok-insert-in-Err-clause-order
returns-in_ok-insert-in-Err-clause-order c =
    let fresh : Named (List PlaceRow) = record { name = c.args.fun; rows = c.in_ok-shared-in-Err.shared } in
    let made : PlaceRow = record { args = c.as_slice-in-Err.result.now; value = c.args.value } in
    let row = one _ made c.args.args.now c.args.value (c.in_ok-shared-in-Err.ensures.ok ∙ c.in_ok-rows-in-Err.ensures)
    (ap (λ (a : List Value). (a, c.args.value)) c.as_slice-in-Err.ensures) in
    let rise = change.order-new place_row _ c.args.tables.now.items c.args.fun c.in-Err.i c.as_slice.ensures.value c.requires
    c.in-Err.ensures.range c.in-Err.ensures.place fresh c.args.args.now c.args.value refl row in
    let order = subst (λ ts. InOrder (place_tables ts)) (sym c.in_ok-insert-in-Err.ensures.items) rise in
    order

pub returns-in_ok-insert-in-Err-clause-set : goal.returns-in_ok-insert-in-Err-clause-set
returns-in_ok-insert-in-Err-clause-set c =
    let fresh : Named (List PlaceRow) = record { name = c.args.fun; rows = c.in_ok-shared-in-Err.shared } in
    let made : PlaceRow = record { args = c.as_slice-in-Err.result.now; value = c.args.value } in
    let row = one _ made c.args.args.now c.args.value (c.in_ok-shared-in-Err.ensures.ok ∙ c.in_ok-rows-in-Err.ensures)
    (ap (λ (a : List Value). (a, c.args.value)) c.as_slice-in-Err.ensures) in
    let rise = change.order-new place_row _ c.args.tables.now.items c.args.fun c.in-Err.i c.as_slice.ensures.value c.requires
    c.in-Err.ensures.range c.in-Err.ensures.place fresh c.args.args.now c.args.value refl row in
    let order = subst (λ ts. InOrder (place_tables ts)) (sym c.in_ok-insert-in-Err.ensures.items) rise in
    map-put (place_tables c.args.tables.now.items) (place_tables c.insert.new.self.items)
    (c.args.fun, c.args.args.now) c.args.value c.requires order
    (λ q. ap (λ ts. dict.find key_cmp q (entries_of (place_tables ts))) c.in_ok-insert-in-Err.ensures.items
    ∙ change.find-new place_row _ c.args.tables.now.items c.args.fun c.in-Err.i c.as_slice.ensures.value c.requires c.in-Err.ensures.range
    c.in-Err.ensures.place fresh c.args.args.now c.args.value refl row q)

pub set_value-requires : goal.set_value-requires
set_value-requires c =
    let ts = c.args.tables.now.items in
    let n = c.args.fun in
    let a = c.args.args.now in
    let old = c.index-t.result.now in
    let found = change.found-at place_row _ ts n c.in-Ok.i old c.as_slice.ensures.value c.requires c.in-Ok.ensures.range
    c.in-Ok.ensures.place c.index-t.ensures in
    let here : c.index_mut.result.now ≡ old = c.index_mut.ensures.value ∙
    (get_or_default ts c.in-Ok.i c.index_mut.result.now old found.below ∙ sym found.is) in
    subst (λ xs. c.in-Ok-find_place.k < length xs) (c.as_ref.ensures ∙ ap (λ (u : Named (List PlaceRow)). u.rows.value) (sym here))
    c.in-Ok-find_place.ensures.range

pub put_place-requires : goal.put_place-requires
put_place-requires c =
    let ts = c.args.tables.now.items in
    let n = c.args.fun in
    let a = c.args.args.now in
    let old = c.index-t.result.now in
    let found = change.found-at place_row _ ts n c.in-Ok.i old c.as_slice.ensures.value c.requires c.in-Ok.ensures.range
    c.in-Ok.ensures.place c.index-t.ensures in
    let here : c.index_mut-in-Err-find_place.result.now ≡ old = c.index_mut-in-Err-find_place.ensures.value ∙
    (get_or_default ts c.in-Ok.i c.index_mut-in-Err-find_place.result.now old found.below ∙ sym found.is) in
    subst (λ xs. c.in-Err-find_place.k ≤ length xs) (c.as_ref.ensures ∙ ap (λ (u : Named (List PlaceRow)). u.rows.value) (sym here))
    c.in-Err-find_place.ensures.range

pub returns-in-Ok-find_place-clause-order : goal.returns-in-Ok-find_place-clause-order
returns-in-Ok-find_place-clause-order c =
    let ts = c.args.tables.now.items in
    let n = c.args.fun in
    let a = c.args.args.now in
    let old = c.index-t.result.now in
    let found = change.found-at place_row _ ts n c.in-Ok.i old c.as_slice.ensures.value c.requires c.in-Ok.ensures.range
    c.in-Ok.ensures.place c.index-t.ensures in
    let here : c.index_mut.result.now ≡ old = c.index_mut.ensures.value ∙
    (get_or_default ts c.in-Ok.i c.index_mut.result.now old found.below ∙ sym found.is) in
    let k = c.in-Ok-find_place.k in
    let fresh = c.set_value.new.table in
    let name : fresh.name ≡ n = c.set_value.ensures.name ∙ (ap (λ (u : Named (List PlaceRow)). u.name) here ∙
    change.name-is place_row _ _ _ _ found) in
    let below : k < length old.rows.value = subst (λ xs. k < length xs) c.as_ref.ensures c.in-Ok-find_place.ensures.range in
    let tied : HoldsAt (λ (r : PlaceRow). row_cmp r.args a ≡ Equal) old.rows.value k =
    subst (λ xs. HoldsAt (λ (r : PlaceRow). row_cmp r.args a ≡ Equal) xs k) c.as_ref.ensures
    (subst (λ b. HoldsAt (λ (r : PlaceRow). row_cmp r.args b ≡ Equal) c.as_ref.result.now k) c.as_slice-in-Ok.ensures
    c.in-Ok-find_place.ensures.place) in
    let more = replaced old.rows.value k a c.args.value (change.rows-rise place_row _ _ _ _ found) below tied in
    on-ok c.set_value.result (λ e.
    let held = e ∙ ap (λ (u : Named (List PlaceRow)). place_set u.rows.value k c.args.value) here in
    subst (λ us. InOrder (place_tables us)) (sym (set-edit ts c.in-Ok.i fresh found.below))
    (change.order-put place_row _ _ _ _ found fresh name a c.args.value (ap (map place_row) held ∙ more))) c.set_value.ensures.rows

pub returns-in-Ok-find_place-clause-set : goal.returns-in-Ok-find_place-clause-set
returns-in-Ok-find_place-clause-set c =
    let ts = c.args.tables.now.items in
    let n = c.args.fun in
    let a = c.args.args.now in
    let old = c.index-t.result.now in
    let found = change.found-at place_row _ ts n c.in-Ok.i old c.as_slice.ensures.value c.requires c.in-Ok.ensures.range
    c.in-Ok.ensures.place c.index-t.ensures in
    let here : c.index_mut.result.now ≡ old = c.index_mut.ensures.value ∙
    (get_or_default ts c.in-Ok.i c.index_mut.result.now old found.below ∙ sym found.is) in
    let k = c.in-Ok-find_place.k in
    let fresh = c.set_value.new.table in
    let name : fresh.name ≡ n = c.set_value.ensures.name ∙ (ap (λ (u : Named (List PlaceRow)). u.name) here ∙
    change.name-is place_row _ _ _ _ found) in
    let below : k < length old.rows.value = subst (λ xs. k < length xs) c.as_ref.ensures c.in-Ok-find_place.ensures.range in
    let tied : HoldsAt (λ (r : PlaceRow). row_cmp r.args a ≡ Equal) old.rows.value k =
    subst (λ xs. HoldsAt (λ (r : PlaceRow). row_cmp r.args a ≡ Equal) xs k) c.as_ref.ensures
    (subst (λ b. HoldsAt (λ (r : PlaceRow). row_cmp r.args b ≡ Equal) c.as_ref.result.now k) c.as_slice-in-Ok.ensures
    c.in-Ok-find_place.ensures.place) in
    let more = replaced old.rows.value k a c.args.value (change.rows-rise place_row _ _ _ _ found) below tied in
    on-ok c.set_value.result (λ e.
    let held = e ∙ ap (λ (u : Named (List PlaceRow)). place_set u.rows.value k c.args.value) here in
    let made = ap (map place_row) held ∙ more in
    let order = change.order-put place_row _ _ _ _ found fresh name a c.args.value made in
    subst (λ us. SetsPlace (n, a) c.args.value ts us) (sym (set-edit ts c.in-Ok.i fresh found.below))
    (map-put (place_tables ts) (place_tables (insert (remove ts c.in-Ok.i) c.in-Ok.i fresh)) (n, a) c.args.value c.requires order
    (λ q. change.find-put place_row _ _ _ _ found fresh name a c.args.value made q))) c.set_value.ensures.rows

pub returns-in-Err-find_place-clause-order : goal.returns-in-Err-find_place-clause-order
returns-in-Err-find_place-clause-order c =
    let ts = c.args.tables.now.items in
    let n = c.args.fun in
    let a = c.args.args.now in
    let old = c.index-t.result.now in
    let found = change.found-at place_row _ ts n c.in-Ok.i old c.as_slice.ensures.value c.requires c.in-Ok.ensures.range
    c.in-Ok.ensures.place c.index-t.ensures in
    let here : c.index_mut-in-Err-find_place.result.now ≡ old = c.index_mut-in-Err-find_place.ensures.value ∙
    (get_or_default ts c.in-Ok.i c.index_mut-in-Err-find_place.result.now old found.below ∙ sym found.is) in
    let k = c.in-Err-find_place.k in
    let row : PlaceRow = record { args = c.as_slice-in-Err-find_place.result.now; value = c.args.value } in
    let fresh = c.put_place.new.table in
    let name : fresh.name ≡ n = c.put_place.ensures.name ∙ (ap (λ (u : Named (List PlaceRow)). u.name) here ∙
    change.name-is place_row _ _ _ _ found) in
    let more = change.row-put place_row _ _ _ _ found a c.args.value k _ row c.as_ref.ensures
    (ap (λ (b : List Value). (b, c.args.value)) c.as_slice-in-Err-find_place.ensures) c.in-Err-find_place.ensures.range
    (rw c.as_slice-in-Ok.ensures at c.in-Err-find_place.ensures.place) in
    on-ok c.put_place.result (λ e.
    let held = e ∙ ap (λ (u : Named (List PlaceRow)). insert u.rows.value k row) here in
    subst (λ us. InOrder (place_tables us)) (sym (set-edit ts c.in-Ok.i fresh found.below))
    (change.order-put place_row _ _ _ _ found fresh name a c.args.value (ap (map place_row) held ∙ more))) c.put_place.ensures.rows

pub returns-in-Err-find_place-clause-set : goal.returns-in-Err-find_place-clause-set
returns-in-Err-find_place-clause-set c =
    let ts = c.args.tables.now.items in
    let n = c.args.fun in
    let a = c.args.args.now in
    let old = c.index-t.result.now in
    let found = change.found-at place_row _ ts n c.in-Ok.i old c.as_slice.ensures.value c.requires c.in-Ok.ensures.range
    c.in-Ok.ensures.place c.index-t.ensures in
    let here : c.index_mut-in-Err-find_place.result.now ≡ old = c.index_mut-in-Err-find_place.ensures.value ∙
    (get_or_default ts c.in-Ok.i c.index_mut-in-Err-find_place.result.now old found.below ∙ sym found.is) in
    let k = c.in-Err-find_place.k in
    let row : PlaceRow = record { args = c.as_slice-in-Err-find_place.result.now; value = c.args.value } in
    let fresh = c.put_place.new.table in
    let name : fresh.name ≡ n = c.put_place.ensures.name ∙ (ap (λ (u : Named (List PlaceRow)). u.name) here ∙
    change.name-is place_row _ _ _ _ found) in
    let more = change.row-put place_row _ _ _ _ found a c.args.value k _ row c.as_ref.ensures
    (ap (λ (b : List Value). (b, c.args.value)) c.as_slice-in-Err-find_place.ensures) c.in-Err-find_place.ensures.range
    (rw c.as_slice-in-Ok.ensures at c.in-Err-find_place.ensures.place) in
    on-ok c.put_place.result (λ e.
    let held = e ∙ ap (λ (u : Named (List PlaceRow)). insert u.rows.value k row) here in
    let made = ap (map place_row) held ∙ more in
    let order = change.order-put place_row _ _ _ _ found fresh name a c.args.value made in
    subst (λ us. SetsPlace (n, a) c.args.value ts us) (sym (set-edit ts c.in-Ok.i fresh found.below))
    (map-put (place_tables ts) (place_tables (insert (remove ts c.in-Ok.i) c.in-Ok.i fresh)) (n, a) c.args.value c.requires order
    (λ q. change.find-put place_row _ _ _ _ found fresh name a c.args.value made q))) c.put_place.ensures.rows
