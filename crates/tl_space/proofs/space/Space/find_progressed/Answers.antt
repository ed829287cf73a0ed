use Rattle.tl_space.proofs.Arriving.{known-as, to-keep}
use Rattle.tl_space.proofs.SpaceLaws.{keeps-same, numbers-later}
use Rattle.tl_space.proofs.space.Space.find_progressed.Goals as goal

pub known-requires : goal.known-requires
known-requires c = record {
  world = (numbers-later c.args.self.now c.number_of_residual.new.self c.args.key
      c.number_of_residual.ensures.keeps c.requires).world;
  label = c.in-Ok.ensures.label;
}

pub returns-in-Some-clause-found : goal.returns-in-Some-clause-found
returns-in-Some-clause-found c = known-as c.args.self.now c.number_of_residual.new.self c.args.key c.in-Ok.label
    c.number_of_residual.ensures.keeps c.requires c.in-Ok.ensures.number c.in-Some.arrival c.in-Some.ensures.known

pub returns-in-None-clause-found : goal.returns-in-None-clause-found
returns-in-None-clause-found c =
    let b = c.number_of_residual.new.self in
    to-keep c.args.self.now b c.args.key c.in-Ok.label c.number_of_residual.ensures.keeps c.requires c.in-Ok.ensures.number b
    (keeps-same b) c.in-Ok.ensures.label c.in-None.ensures.fresh
