use Rattle.std.proofs.Common.{◌≡◌, ◌+◌, ◌-◌, ◌<◌, length, slice_get, Some, subst, arith}
use Rattle.tl_known.specs.declared.table_name.TableName.TheVariants.{Fun}
use Rattle.tl_known.specs.TableNumbers.{tables_in}
use Rattle.tl_known.proofs.TableNames.{table-count, pred-at, fun-at}
use Rattle.tl_known.proofs.world_tables.table_at.Goals as goal

pub table_in-u-requires : goal.table_in-u-requires
table_in-u-requires c =
    let count = table-count c.tables-tables.result.facts.now c.tables-tables.result.places.now c.args.world.now
    (c.tables-tables.ensures.facts_order, c.tables-tables.ensures.places_order) c.tables-tables.ensures.world in
    omega (arith, count, c.requires)

pub returns-then-i-facts : goal.returns-then-i-facts
returns-then-i-facts c =
    pred-at c.tables-tables.result.facts.now c.tables-tables.result.places.now c.args.world.now
    (c.tables-tables.ensures.facts_order, c.tables-tables.ensures.places_order) c.tables-tables.ensures.world c.args.i
    c.table_in-t.result.now c.if-i-facts.true c.table_in-t.ensures

pub returns-else-i-facts : goal.returns-else-i-facts
returns-else-i-facts c =
    let facts = c.tables-tables.result.facts.now in
    let places = c.tables-tables.result.places.now in
    let k = c.args.i - length facts in
    let count = table-count facts places c.args.world.now (c.tables-tables.ensures.facts_order, c.tables-tables.ensures.places_order)
    c.tables-tables.ensures.world in
    let below : k < length places = omega (arith, count, c.requires) in
    let at : length facts + k ≡ c.args.i = omega arith in
    subst (λ n. slice_get (tables_in c.args.world.now) n ≡ Some (Fun c.table_in-u.result.now.name)) at
    (fun-at facts places c.args.world.now (c.tables-tables.ensures.facts_order, c.tables-tables.ensures.places_order)
    c.tables-tables.ensures.world k c.table_in-u.result.now below c.table_in-u.ensures)
