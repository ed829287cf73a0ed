use Rattle.tl_space.proofs.Arriving.{true-leaves-itself}
use Rattle.tl_space.proofs.space.Space.leaves_itself.Goals as goal

pub returns : goal.returns
returns c = true-leaves-itself c.args.self.now c.args.key c.len.ensures.truth
