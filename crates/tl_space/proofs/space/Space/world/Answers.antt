use Rattle.tl_space.proofs.Judging.{world-named}
use Rattle.tl_space.proofs.SpaceLaws.{world-of}
use Rattle.tl_space.proofs.space.Space.world.Goals as goal

pub returns-clause-world : goal.returns-clause-world
returns-clause-world c = λ x e. world-of c.args.self.now c.numbers.result c.get.result.now c.get.ensures x.node (c.numbers.ensures.node x e)

pub returns-clause-named : goal.returns-clause-named
returns-clause-named c = world-named c.args.self.now c.numbers.result.world c.get.result.now c.get.ensures
