use Rattle.std.proofs.Common.{◌≡◌, ◌<◌, List, length, sym, ap, ◌∙◌, subst, arith, Equal}
use Rattle.std.proofs.lemmas.List.{get_or_default}
use Rattle.std.specs.List.{remove, HoldsAt}
use Rattle.std.specs.FinSet as set
use Rattle.tl_syntax.specs.declared.value.Value.{Value}
use Rattle.tl_rows.specs.declared.named.Named.{Named}
use Rattle.tl_rows.specs.Tables.{row_cmp, InOrder, fact_row, fact_table, fact_tables, set_of}
use Rattle.tl_rows.proofs.Going.{on-ok}
use Rattle.tl_rows.proofs.Lookup.{at-table, no-table}
use Rattle.tl_world.proofs.Change as change
use Rattle.tl_world.proofs.Step.{set-absent}
use Rattle.tl_world.proofs.Taken.{set-edit, order-out, facts-out, facts-emptied}
use Rattle.tl_world.proofs.facts.without.Goals as goal

pub cut_row-requires : goal.cut_row-requires
cut_row-requires c =
    let ts = c.args.tables.now.items in
    let n = c.args.fact.now.pred in
    let a = c.args.fact.now.args in
    let old = c.index-t.result.now in
    let found = change.found-at fact_row _ ts n c.in-Ok.i old c.as_slice.ensures.value c.requires c.in-Ok.ensures.range
    c.in-Ok.ensures.place c.index-t.ensures in
    let here : c.index_mut.result.now ≡ old = c.index_mut.ensures.value ∙
    (get_or_default ts c.in-Ok.i c.index_mut.result.now old found.below ∙ sym found.is) in
    subst (λ xs. c.in-Ok-find_row.k < length xs) (c.runs.ensures ∙ (c.deref.ensures ∙
    ap (λ (u : Named (List (List Value))). u.rows.value) (sym here))) c.in-Ok-find_row.ensures.range

pub returns-then-len-eq1-clause-order : goal.returns-then-len-eq1-clause-order
returns-then-len-eq1-clause-order c =
    let ts = c.args.tables.now.items in
    let n = c.args.fact.now.pred in
    let a = c.args.fact.now.args in
    let old = c.index-t.result.now in
    let found = change.found-at fact_row _ ts n c.in-Ok.i old c.as_slice.ensures.value c.requires c.in-Ok.ensures.range
    c.in-Ok.ensures.place c.index-t.ensures in
    subst (λ us. InOrder (fact_tables us)) (sym c.remove.ensures.items) (change.order-emptied fact_row _ _ _ _ found)

pub returns-then-len-eq1-clause-facts : goal.returns-then-len-eq1-clause-facts
returns-then-len-eq1-clause-facts c =
    let ts = c.args.tables.now.items in
    let n = c.args.fact.now.pred in
    let a = c.args.fact.now.args in
    let old = c.index-t.result.now in
    let found = change.found-at fact_row _ ts n c.in-Ok.i old c.as_slice.ensures.value c.requires c.in-Ok.ensures.range
    c.in-Ok.ensures.place c.index-t.ensures in
    let same = c.runs.ensures ∙ c.deref.ensures in
    let k = c.in-Ok-find_row.k in
    let below : k < length old.rows.value = subst (λ xs. k < length xs) same c.in-Ok-find_row.ensures.range in
    let tied : HoldsAt (λ (r : List Value). row_cmp r a ≡ Equal) old.rows.value k =
    subst (λ xs. HoldsAt (λ (r : List Value). row_cmp r a ≡ Equal) xs k) same
    (rw c.as_slice-in-Ok.ensures at c.in-Ok-find_row.ensures.place) in
    let one = sym c.if-len-eq1.true ∙ (c.len.ensures ∙ ap length c.deref-in-Ok-find_row.ensures) in
    ap (λ us. set_of (fact_tables us)) c.remove.ensures.items ∙ facts-emptied ts n c.in-Ok.i old k a found below tied one

pub returns-else-len-eq1-clause-order : goal.returns-else-len-eq1-clause-order
returns-else-len-eq1-clause-order c =
    let ts = c.args.tables.now.items in
    let n = c.args.fact.now.pred in
    let a = c.args.fact.now.args in
    let old = c.index-t.result.now in
    let found = change.found-at fact_row _ ts n c.in-Ok.i old c.as_slice.ensures.value c.requires c.in-Ok.ensures.range
    c.in-Ok.ensures.place c.index-t.ensures in
    let same = c.runs.ensures ∙ c.deref.ensures in
    let k = c.in-Ok-find_row.k in
    let below : k < length old.rows.value = subst (λ xs. k < length xs) same c.in-Ok-find_row.ensures.range in
    let tied : HoldsAt (λ (r : List Value). row_cmp r a ≡ Equal) old.rows.value k =
    subst (λ xs. HoldsAt (λ (r : List Value). row_cmp r a ≡ Equal) xs k) same
    (rw c.as_slice-in-Ok.ensures at c.in-Ok-find_row.ensures.place) in
    let here : c.index_mut.result.now ≡ old = c.index_mut.ensures.value ∙
    (get_or_default ts c.in-Ok.i c.index_mut.result.now old found.below ∙ sym found.is) in
    let fresh = c.cut_row.new.table in
    let name : fresh.name ≡ n = c.cut_row.ensures.name ∙ (ap (λ (u : Named (List (List Value))). u.name) here ∙
    change.name-is fact_row _ _ _ _ found) in
    let many = c.if-len-eq1.false in
    let size = c.len.ensures ∙ ap length c.deref-in-Ok-find_row.ensures in
    on-ok c.cut_row.result
    (λ e. subst (λ us. InOrder (fact_tables us)) (sym (set-edit ts c.in-Ok.i fresh found.below))
    (order-out ts n c.in-Ok.i old k a found below tied fresh name (e ∙ ap (λ (u : Named (List (List Value))). remove u.rows.value k) here)
    (omega (arith, below, many, size))))
    c.cut_row.ensures.rows

pub returns-else-len-eq1-clause-facts : goal.returns-else-len-eq1-clause-facts
returns-else-len-eq1-clause-facts c =
    let ts = c.args.tables.now.items in
    let n = c.args.fact.now.pred in
    let a = c.args.fact.now.args in
    let old = c.index-t.result.now in
    let found = change.found-at fact_row _ ts n c.in-Ok.i old c.as_slice.ensures.value c.requires c.in-Ok.ensures.range
    c.in-Ok.ensures.place c.index-t.ensures in
    let same = c.runs.ensures ∙ c.deref.ensures in
    let k = c.in-Ok-find_row.k in
    let below : k < length old.rows.value = subst (λ xs. k < length xs) same c.in-Ok-find_row.ensures.range in
    let tied : HoldsAt (λ (r : List Value). row_cmp r a ≡ Equal) old.rows.value k =
    subst (λ xs. HoldsAt (λ (r : List Value). row_cmp r a ≡ Equal) xs k) same
    (rw c.as_slice-in-Ok.ensures at c.in-Ok-find_row.ensures.place) in
    let here : c.index_mut.result.now ≡ old = c.index_mut.ensures.value ∙
    (get_or_default ts c.in-Ok.i c.index_mut.result.now old found.below ∙ sym found.is) in
    let fresh = c.cut_row.new.table in
    let name : fresh.name ≡ n = c.cut_row.ensures.name ∙ (ap (λ (u : Named (List (List Value))). u.name) here ∙
    change.name-is fact_row _ _ _ _ found) in
    on-ok c.cut_row.result
    (λ e. subst (λ us. set_of (fact_tables us) ≡ set.remove (set_of (fact_tables ts)) (n, a))
    (sym (set-edit ts c.in-Ok.i fresh found.below))
    (facts-out ts n c.in-Ok.i old k a found below tied fresh name (e ∙ ap (λ (u : Named (List (List Value))). remove u.rows.value k) here)))
    c.cut_row.ensures.rows

pub returns-in-Err-clause-facts : goal.returns-in-Err-clause-facts
returns-in-Err-clause-facts c =
    let ts = c.args.tables.now.items in
    let n = c.args.fact.now.pred in
    let a = c.args.fact.now.args in
    set-absent (fact_tables ts) (n, a) (no-table fact_table ts n a c.in-Err.field-0 c.requires
    (rw c.as_slice.ensures.value at c.in-Err.ensures.place))

pub returns-in-Err-find_row-clause-facts : goal.returns-in-Err-find_row-clause-facts
returns-in-Err-find_row-clause-facts c =
    let ts = c.args.tables.now.items in
    let n = c.args.fact.now.pred in
    let a = c.args.fact.now.args in
    let old = c.index-t.result.now in
    let found = change.found-at fact_row _ ts n c.in-Ok.i old c.as_slice.ensures.value c.requires c.in-Ok.ensures.range
    c.in-Ok.ensures.place c.index-t.ensures in
    let same = c.runs.ensures ∙ c.deref.ensures in
    set-absent (fact_tables ts) (n, a)
    (at-table fact_table ts n a c.in-Ok.i old c.requires found.below found.tie
    ∙ change.row-absent fact_row _ _ _ _ found a c.in-Err-find_row.field-0 _ same
    (rw c.as_slice-in-Ok.ensures at c.in-Err-find_row.ensures.place))
