use Rattle.tl_space.proofs.Keeping.{remembered-known}
use Rattle.tl_space.proofs.space.Space.remember.Goals as goal

pub invariant_of-self : goal.invariant_of-self
invariant_of-self c =
    let s = c.args.self.now in
    record {
      lists = s.lists;
      named_worlds = s.named_worlds;
      kept = s.kept;
      remembered = remembered-known s c.args.key c.args.arrival _ c.requires.key c.requires.known c.remember.ensures;
      found = s.found;
    }
