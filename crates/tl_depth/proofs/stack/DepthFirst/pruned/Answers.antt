use Rattle.tl_depth.proofs.NamedStacks.{stack-stepped, search-with}
use Rattle.std.proofs.Common.{refl, ap}
use Rattle.tl_depth.specs.declared.stack.DepthFirst.{DepthFirst}
use Rattle.tl_search.specs.declared.arrival.Arrival.TheVariants as arrival
use Rattle.tl_depth.proofs.Arriving.{turned-pruned}
use Rattle.tl_depth.proofs.stack.DepthFirst.pruned.Goals as goal

pub returns-clause-turned : goal.returns-clause-turned
returns-clause-turned g c calls s = turned-pruned _ _ _ _ arrival.Pruned _ calls s c.pass.new.self c.pass.ensures.stack c.pass.ensures.rest
    s.arrives refl

pub returns-clause-named : goal.returns-clause-named
returns-clause-named g c =
    let s = c.requires.arrived.1 in
    search-with (g.S.SearchSpace.task c.args.space.now) c.args.self.now c.pass.new.self
    (stack-stepped (g.S.SearchSpace.task c.args.space.now) c.args.self.now.stack.items s.front c.pass.new.self.stack.items s.top s.stack
    (c.pass.ensures.stack s.front s.top s.stack) c.requires.named.stack)
    (ap (λ (w : DepthFirst). w.events) c.pass.ensures.rest) c.requires.named
