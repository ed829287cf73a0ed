use Rattle.std.proofs.Common.{◌≡◌, true, List, map, sym, ap, ◌∙◌, subst, is_some}
use Rattle.std.specs.List.{list_any}
use Rattle.std.specs.Ordering.{eq_by_cmp}
use Rattle.std.specs.FinMap as dict
use Rattle.std.specs.FinMap.Entries.{is_some-find}
use Rattle.tl_syntax.specs.declared.value.Value.{Value}
use Rattle.tl_syntax.proofs.ListLaws.{iff-trans, iff-path}
use Rattle.tl_terms.specs.World.{World, has_fact}
use Rattle.tl_rows.specs.declared.named.Named.{Named}
use Rattle.tl_rows.specs.Tables.{row_cmp, AreRows, fact_row, fact_table, fact_tables}
use Rattle.tl_world.proofs.Change as change
use Rattle.tl_rows.proofs.Lookup.{at-table, no-table, rows-at, contains-set_of, row_total}
use Rattle.tl_rows.proofs.Lent.{row_ties, any-among, bare, filled-length}
use Rattle.tl_world.proofs.Lent.{fact-rows-rise}
use Rattle.tl_world.proofs.world.World.rows.Goals as goal

pub returns-in-Ok-clause-facts : goal.returns-in-Ok-clause-facts
returns-in-Ok-clause-facts c a =
    let found = change.found-at fact_row _ c.self.inside.facts.items c.args.pred c.in-Ok.i c.index-t.result.now c.as_slice.ensures.value
    c.self.invariant.0.0 c.in-Ok.ensures.range c.in-Ok.ensures.place c.index-t.ensures in
    let held = c.as_ref.ensures ∙ ap (λ (u : Named (List (List Value))). u.rows.value) found.is in
    let same : has_fact c.args.self.now (c.args.pred, a) ≡ list_any (eq_by_cmp row_cmp a) c.as_ref.result.now =
    sym (ap (λ (w : World). has_fact w (c.args.pred, a)) c.self.view_is)
    ∙ (contains-set_of (fact_tables c.self.inside.facts.items) (c.args.pred, a)
    ∙ (ap is_some (at-table fact_table c.self.inside.facts.items c.args.pred a c.in-Ok.i c.index-t.result.now c.self.invariant.0.0
    found.below found.tie)
    ∙ (ap (λ rows. is_some (dict.find row_cmp a (map fact_row rows))) (sym held)
    ∙ (is_some-find row_cmp a (map fact_row c.as_ref.result.now) ∙ ap (list_any (eq_by_cmp row_cmp a)) (bare c.as_ref.result.now))))) in
    iff-trans (any-among row_total row_ties a c.as_ref.result.now) (iff-path (λ b. b ≡ true) (sym same))

pub returns-in-Ok-clause-order : goal.returns-in-Ok-clause-order
returns-in-Ok-clause-order c =
    let found = change.found-at fact_row _ c.self.inside.facts.items c.args.pred c.in-Ok.i c.index-t.result.now c.as_slice.ensures.value
    c.self.invariant.0.0 c.in-Ok.ensures.range c.in-Ok.ensures.place c.index-t.ensures in
    let held = c.as_ref.ensures ∙ ap (λ (u : Named (List (List Value))). u.rows.value) found.is in
    fact-rows-rise c.as_ref.result.now (subst (λ rows. AreRows (map fact_row rows)) (sym held)
    (rows-at fact_table c.self.inside.facts.items c.in-Ok.i c.index-t.result.now found.below c.self.invariant.0.0.1)).1

pub returns-in-Ok-clause-filled : goal.returns-in-Ok-clause-filled
returns-in-Ok-clause-filled c =
    let found = change.found-at fact_row _ c.self.inside.facts.items c.args.pred c.in-Ok.i c.index-t.result.now c.as_slice.ensures.value
    c.self.invariant.0.0 c.in-Ok.ensures.range c.in-Ok.ensures.place c.index-t.ensures in
    let held = c.as_ref.ensures ∙ ap (λ (u : Named (List (List Value))). u.rows.value) found.is in
    filled-length fact_row c.as_ref.result.now (subst (λ rows. AreRows (map fact_row rows)) (sym held)
    (rows-at fact_table c.self.inside.facts.items c.in-Ok.i c.index-t.result.now found.below c.self.invariant.0.0.1)).0

pub returns-in-Err-clause-none : goal.returns-in-Err-clause-none
returns-in-Err-clause-none c a =
    sym (ap (λ (w : World). has_fact w (c.args.pred, a)) c.self.view_is)
    ∙ (contains-set_of (fact_tables c.self.inside.facts.items) (c.args.pred, a)
    ∙ ap is_some (no-table fact_table c.self.inside.facts.items c.args.pred a c.in-Err.field-0 c.self.invariant.0.0
    (rw c.as_slice.ensures.value at c.in-Err.ensures.place)))
