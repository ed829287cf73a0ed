use Rattle.tl_space.proofs.Arriving.{known-later}
use Rattle.tl_space.proofs.SpaceLaws.{numbers-later}
use Rattle.tl_space.proofs.space.Space.find_anew.Goals as goal

pub remember-requires-clause-key : goal.remember-requires-clause-key
remember-requires-clause-key c = numbers-later c.args.self.now c.find_progressed.new.self c.args.key c.find_progressed.ensures.keeps
    c.requires

pub remember-requires-clause-known : goal.remember-requires-clause-known
remember-requires-clause-known c = rw c.in-Ok-Known.field-0-is at c.in-Ok-Known.ensures.found

pub returns-in-Ok-Known-clause-found : goal.returns-in-Ok-Known-clause-found
returns-in-Ok-Known-clause-found c =
    let a = c.args.self.now in
    let b = c.find_progressed.new.self in
    known-later b c.remember.new.self c.args.key c.in-Ok-Known.arrival c.remember.ensures
    (numbers-later a b c.args.key c.find_progressed.ensures.keeps c.requires)
    (rw c.in-Ok-Known.field-0-is at c.in-Ok-Known.ensures.found)
