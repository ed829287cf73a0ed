use Rattle.std.proofs.Common.{sym}
use Rattle.tl_known.proofs.TableNames.{table-count}
use Rattle.tl_known.proofs.world_tables.table_count.Goals as goal

pub returns : goal.returns
returns c = sym (table-count c.tables-tables.result.facts.now c.tables-tables.result.places.now c.args.world.now
    (c.tables-tables.ensures.facts_order, c.tables-tables.ensures.places_order) c.tables-tables.ensures.world)
