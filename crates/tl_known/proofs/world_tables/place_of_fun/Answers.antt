use Rattle.std.proofs.Common.{refl}
use Rattle.tl_known.proofs.TableNames.{fun-found}
use Rattle.tl_known.proofs.world_tables.place_of_fun.Goals as goal

pub returns-in-Ok : goal.returns-in-Ok
returns-in-Ok c =
    fun-found c.tables-tables.result.facts.now c.tables-tables.result.places.now c.args.world.now
    (c.tables-tables.ensures.facts_order, c.tables-tables.ensures.places_order) c.tables-tables.ensures.world
    c.tables-tables.result.places.now c.in-Ok.i c.args.fun refl c.in-Ok.ensures.range c.in-Ok.ensures.place
