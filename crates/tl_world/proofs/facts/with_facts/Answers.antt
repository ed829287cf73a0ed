use Rattle.std.proofs.Common.{◌≡◌, map, ap, ◌∙◌, subst}
use Rattle.std.specs.Prelude.{OnOk}
use Rattle.tl_syntax.specs.Keys.{fact_key}
use Rattle.tl_terms.specs.Step.{with_all}
use Rattle.tl_rows.specs.Tables.{fact_tables, set_of}
use Rattle.tl_world.proofs.Orders.{with-permuted}
use Rattle.tl_world.proofs.facts.with_facts.Goals as goal

pub returns-in_ok-sorted-clause-facts : goal.returns-in_ok-sorted-clause-facts
returns-in_ok-sorted-clause-facts c =
    let s = set_of (fact_tables c.args.tables.now.items) in
    let same = ap (λ fs. with_all s (map fact_key fs)) c.as_slice.ensures.value ∙
    with-permuted s c.args.adds.now c.in_ok-sorted.sorted.items c.in_ok-sorted.ensures in
    subst (λ t. OnOk c.with_each-else-adds-lt-MANY.result (set_of (fact_tables c.with_each-else-adds-lt-MANY.new.tables.items) ≡ t)) same
    c.with_each-else-adds-lt-MANY.ensures.facts
