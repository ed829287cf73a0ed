use Rattle.std.proofs.Common.{refl, ap}
use Rattle.tl_terms.specs.World.{World}
use Rattle.tl_known.proofs.TableNames.{tell-those}
use Rattle.tl_known.proofs.Unset.{values-of}
use Rattle.tl_known.proofs.is_after.Numbered.has_values_beside.Goals as goal

pub are_place_tables_beside-requires : goal.are_place_tables_beside-requires
are_place_tables_beside-requires c =
    let ts = c.tables-tables.result in
    let us = c.tables-others.result in
    tell-those ts.facts.now us.facts.now ts.places.now us.places.now c.args.self.now.world.now c.args.from.now.world.now
    (c.tables-tables.ensures.facts_order, c.tables-tables.ensures.places_order)
    (c.tables-others.ensures.facts_order, c.tables-others.ensures.places_order) c.tables-tables.ensures.world
    c.tables-others.ensures.world c.args.self.now.numbers.now c.args.from.now.numbers.now c.requires
    ts.places.now us.places.now c.numbers_from.result.now c.numbers_from-2.result.now refl refl c.numbers_from.ensures
    c.numbers_from-2.ensures

pub returns : goal.returns
returns c = λ t.
    values-of c.args.sets.now c.tables-tables.result.places.now c.tables-others.result.places.now c.args.self.now.world.now.places
    c.args.from.now.world.now.places c.tables-tables.ensures.places_order c.tables-others.ensures.places_order
    (ap (λ (w : World). w.places) c.tables-tables.ensures.world) (ap (λ (w : World). w.places) c.tables-others.ensures.world)
    (c.are_place_tables_beside.ensures t)
