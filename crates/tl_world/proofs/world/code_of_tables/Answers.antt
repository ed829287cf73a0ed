use Rattle.std.proofs.Common.{◌∙◌}
use Rattle.tl_world.proofs.Alike.{tables-coded}
use Rattle.tl_world.proofs.world.code_of_tables.Goals as goal

pub returns : goal.returns
returns c = c.finish.ensures ∙ tables-coded c.default-hasher.result c.hash.new.state c.hash-2.new.state c.args.facts.now c.args.places.now
    c.default-hasher.ensures c.hash.ensures c.hash-2.ensures
