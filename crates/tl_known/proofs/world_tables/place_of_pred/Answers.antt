use Rattle.std.proofs.Common.{refl}
use Rattle.tl_known.proofs.TableNames.{pred-found}
use Rattle.tl_known.proofs.world_tables.place_of_pred.Goals as goal

pub returns-in-Ok : goal.returns-in-Ok
returns-in-Ok c =
    pred-found c.tables.result.facts.now c.tables.result.places.now c.args.world.now
    (c.tables.ensures.facts_order, c.tables.ensures.places_order) c.tables.ensures.world c.tables.result.facts.now c.in-Ok.i c.args.pred
    refl c.in-Ok.ensures.range c.in-Ok.ensures.place
