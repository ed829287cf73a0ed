use Rattle.tl_world.proofs.Alike.{hashed}
use Rattle.tl_world.proofs.world.WorldHash.hash.Goals as goal

pub returns : goal.returns
returns g c = hashed g.H.Hasher.write c.args.state.now c.hash.new.state c.self.inside.code c.self.inside.facts.items
    c.self.inside.places.items _ c.self.invariant c.self.view_is c.hash.ensures
