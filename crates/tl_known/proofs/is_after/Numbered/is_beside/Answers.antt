use Rattle.std.proofs.Common.{◌++◌, sym, ap, ◌∙◌}
use Rattle.std.specs.FinSet as set
use Rattle.tl_terms.specs.World.{World}
use Rattle.tl_known.proofs.TableNames.{tell-rows}
use Rattle.tl_known.proofs.Unchanged.{alike-facts}
use Rattle.tl_known.proofs.is_after.Numbered.is_beside.Goals as goal

pub are_tables_beside-requires : goal.are_tables_beside-requires
are_tables_beside-requires c =
    let ts = c.tables.result in
    let us = c.tables-2.result in
    tell-rows ts.facts.now us.facts.now ts.places.now us.places.now c.args.self.now.world.now c.args.from.now.world.now
    (c.tables.ensures.facts_order, c.tables.ensures.places_order) (c.tables-2.ensures.facts_order, c.tables-2.ensures.places_order)
    c.tables.ensures.world c.tables-2.ensures.world c.args.self.now.numbers.now c.args.from.now.numbers.now c.requires

pub returns : goal.returns
returns c = λ t q e.
    ap (λ (w : World). set.contains w.facts q) (sym c.tables.ensures.world)
    ∙ (alike-facts (c.args.dels.now ++ c.args.adds.now) c.tables.result.facts.now c.tables-2.result.facts.now
    (c.are_tables_beside.ensures t) q e
    ∙ ap (λ (w : World). set.contains w.facts q) c.tables-2.ensures.world)
