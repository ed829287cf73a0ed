use Rattle.std.proofs.Common.{◌≡◌, ◌≤◌, List, [], ◌∷◌, map, length, sym, ap, ◌∙◌, subst, refl}
use Rattle.std.proofs.lemmas.List.{get_or_default}
use Rattle.std.specs.List.{insert, remove}
use Rattle.std.specs.FinMap as dict
use Rattle.std.specs.FinSet as set
use Rattle.tl_syntax.specs.declared.value.Value.{Value}
use Rattle.tl_syntax.specs.Keys.{key_cmp}
use Rattle.tl_rows.specs.declared.named.Named.{Named}
use Rattle.tl_rows.specs.Tables.{InOrder, fact_row, fact_table, fact_tables, entries_of, set_of}
use Rattle.tl_world.proofs.Taken.{set-edit}
use Rattle.tl_world.proofs.Change as change
use Rattle.tl_rows.proofs.Going.{on-ok}
use Rattle.tl_rows.proofs.Lookup.{at-table}
use Rattle.tl_world.proofs.Step.{set-put, set-present}
use Rattle.tl_world.proofs.facts.with_fact.Goals as goal

-- a table of one row
one : (xs : List (List Value)) (r a : List Value) → xs ≡ r ∷ [] → r ≡ a → map fact_row xs ≡ (a, tt) ∷ []
one xs r a e is = ap (map fact_row) e ∙ ap (λ x. fact_row x ∷ []) is

pub returns-in_ok-insert-in-Err-clause-order : goal.returns-in_ok-insert-in-Err-clause-order
returns-in_ok-insert-in-Err-clause-order c =
    let fresh : Named (List (List Value)) = record { name = c.args.pred; rows = c.in_ok-shared-in-Err.shared } in
    let row = one _ c.as_slice-in-Err.result.now c.args.args.now (c.in_ok-shared-in-Err.ensures ∙ c.in_ok-rows-in-Err.ensures)
    c.as_slice-in-Err.ensures in
    subst (λ ts. InOrder (fact_tables ts)) (sym c.in_ok-insert-in-Err.ensures.items)
    (change.order-new fact_row _ c.args.tables.now.items c.args.pred c.in-Err.i c.as_slice.ensures.value c.requires c.in-Err.ensures.range
    c.in-Err.ensures.place fresh c.args.args.now tt refl row)

pub returns-in_ok-insert-in-Err-clause-facts : goal.returns-in_ok-insert-in-Err-clause-facts
returns-in_ok-insert-in-Err-clause-facts c =
    let fresh : Named (List (List Value)) = record { name = c.args.pred; rows = c.in_ok-shared-in-Err.shared } in
    let row = one _ c.as_slice-in-Err.result.now c.args.args.now (c.in_ok-shared-in-Err.ensures ∙ c.in_ok-rows-in-Err.ensures)
    c.as_slice-in-Err.ensures in
    set-put (fact_tables c.args.tables.now.items) (fact_tables c.insert.new.self.items) (c.args.pred, c.args.args.now)
    (λ q. ap (λ ts. dict.find key_cmp q (entries_of (fact_tables ts))) c.in_ok-insert-in-Err.ensures.items
    ∙ change.find-new fact_row _ c.args.tables.now.items c.args.pred c.in-Err.i c.as_slice.ensures.value c.requires c.in-Err.ensures.range
    c.in-Err.ensures.place fresh c.args.args.now tt refl row q)

pub returns-in-Ok-find_row-clause-facts : goal.returns-in-Ok-find_row-clause-facts
returns-in-Ok-find_row-clause-facts c =
    let found = change.found-at fact_row _ c.args.tables.now.items c.args.pred c.in-Ok.i c.index-t.result.now c.as_slice.ensures.value
    c.requires c.in-Ok.ensures.range c.in-Ok.ensures.place c.index-t.ensures in
    let same = c.runs.ensures ∙ c.deref.ensures in
    set-present (fact_tables c.args.tables.now.items) (c.args.pred, c.args.args.now)
    (at-table fact_table c.args.tables.now.items c.args.pred c.args.args.now c.in-Ok.i c.index-t.result.now c.requires found.below found.tie
    ∙ change.row-present fact_row _ _ _ _ found c.args.args.now c.in-Ok-find_row.field-0 [] _ same c.in-Ok-find_row.ensures.range
    (rw c.as_slice-in-Ok.ensures at c.in-Ok-find_row.ensures.place))

pub put_row-requires : goal.put_row-requires
put_row-requires c =
    let ts = c.args.tables.now.items in
    let n = c.args.pred in
    let a = c.args.args.now in
    let old = c.index-t.result.now in
    let found = change.found-at fact_row _ ts n c.in-Ok.i old c.as_slice.ensures.value c.requires c.in-Ok.ensures.range
    c.in-Ok.ensures.place c.index-t.ensures in
    let here : c.index_mut.result.now ≡ old = c.index_mut.ensures.value ∙
    (get_or_default ts c.in-Ok.i c.index_mut.result.now old found.below ∙ sym found.is) in
    subst (λ xs. c.in-Err-find_row.k ≤ length xs) (c.runs.ensures ∙ (c.deref.ensures ∙
    ap (λ (u : Named (List (List Value))). u.rows.value) (sym here))) c.in-Err-find_row.ensures.range

pub returns-in-Err-find_row-clause-order : goal.returns-in-Err-find_row-clause-order
returns-in-Err-find_row-clause-order c =
    let ts = c.args.tables.now.items in
    let n = c.args.pred in
    let a = c.args.args.now in
    let old = c.index-t.result.now in
    let found = change.found-at fact_row _ ts n c.in-Ok.i old c.as_slice.ensures.value c.requires c.in-Ok.ensures.range
    c.in-Ok.ensures.place c.index-t.ensures in
    let here : c.index_mut.result.now ≡ old = c.index_mut.ensures.value ∙
    (get_or_default ts c.in-Ok.i c.index_mut.result.now old found.below ∙ sym found.is) in
    let fresh = c.put_row.new.table in
    let name : fresh.name ≡ n = c.put_row.ensures.name ∙ (ap (λ (u : Named (List (List Value))). u.name) here ∙
    change.name-is fact_row _ _ _ _ found) in
    let k = c.in-Err-find_row.k in
    let row = c.as_slice-in-Err-find_row.result.now in
    let more = change.row-put fact_row _ _ _ _ found a tt k _ row (c.runs.ensures ∙ c.deref.ensures)
    (ap fact_row c.as_slice-in-Err-find_row.ensures) c.in-Err-find_row.ensures.range
    (rw c.as_slice-in-Ok.ensures at c.in-Err-find_row.ensures.place) in
    on-ok c.put_row.result (λ e.
    let held = e ∙ ap (λ (u : Named (List (List Value))). insert u.rows.value k row) here in
    subst (λ us. InOrder (fact_tables us)) (sym (set-edit ts c.in-Ok.i fresh found.below))
    (change.order-put fact_row _ _ _ _ found fresh name a tt (ap (map fact_row) held ∙ more))) c.put_row.ensures.rows

pub returns-in-Err-find_row-clause-facts : goal.returns-in-Err-find_row-clause-facts
returns-in-Err-find_row-clause-facts c =
    let ts = c.args.tables.now.items in
    let n = c.args.pred in
    let a = c.args.args.now in
    let old = c.index-t.result.now in
    let found = change.found-at fact_row _ ts n c.in-Ok.i old c.as_slice.ensures.value c.requires c.in-Ok.ensures.range
    c.in-Ok.ensures.place c.index-t.ensures in
    let here : c.index_mut.result.now ≡ old = c.index_mut.ensures.value ∙
    (get_or_default ts c.in-Ok.i c.index_mut.result.now old found.below ∙ sym found.is) in
    let fresh = c.put_row.new.table in
    let name : fresh.name ≡ n = c.put_row.ensures.name ∙ (ap (λ (u : Named (List (List Value))). u.name) here ∙
    change.name-is fact_row _ _ _ _ found) in
    let k = c.in-Err-find_row.k in
    let row = c.as_slice-in-Err-find_row.result.now in
    let more = change.row-put fact_row _ _ _ _ found a tt k _ row (c.runs.ensures ∙ c.deref.ensures)
    (ap fact_row c.as_slice-in-Err-find_row.ensures) c.in-Err-find_row.ensures.range
    (rw c.as_slice-in-Ok.ensures at c.in-Err-find_row.ensures.place) in
    on-ok c.put_row.result (λ e.
    let held = e ∙ ap (λ (u : Named (List (List Value))). insert u.rows.value k row) here in
    let now = set-edit ts c.in-Ok.i fresh found.below in
    subst (λ us. set_of (fact_tables us) ≡ set.insert (set_of (fact_tables ts)) (n, a)) (sym now)
    (set-put (fact_tables ts) (fact_tables (insert (remove ts c.in-Ok.i) c.in-Ok.i fresh)) (n, a)
    (λ q. change.find-put fact_row _ _ _ _ found fresh name a tt (ap (map fact_row) held ∙ more) q))) c.put_row.ensures.rows
