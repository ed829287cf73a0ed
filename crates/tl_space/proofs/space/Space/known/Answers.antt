use Rattle.std.proofs.Common.{sym}
use Rattle.tl_known.proofs.Numbering.{absent}
use Rattle.tl_space.proofs.Inserting.{found-at}
use Rattle.tl_space.proofs.Keeping.{numbers_eq, numbers-tells, is-false, is-open, known-at}
use Rattle.tl_space.proofs.space.Space.known.Goals as goal

pub returns-then-numbers-eq-FALSE-clause-known : goal.returns-then-numbers-eq-FALSE-clause-known
returns-then-numbers-eq-FALSE-clause-known c = is-false c.args.self.now c.args.numbers c.if-numbers-eq-FALSE.true

pub returns-in-Some-clause-known : goal.returns-in-Some-clause-known
returns-in-Some-clause-known c = known-at c.args.self.now c.args.numbers c.in-Some.at
    (found-at numbers_eq numbers-tells c.args.numbers c.args.self.now.pairs.keys c.in-Some.at (sym c.in-Some.ensures.index))

pub returns-in-None-clause-fresh : goal.returns-in-None-clause-fresh
returns-in-None-clause-fresh c = record {
  unpruned = is-open c.args.self.now c.args.numbers c.requires c.if-numbers-eq-FALSE.false;
  absent = absent numbers_eq numbers-tells c.args.numbers c.args.self.now.pairs.keys (sym c.in-None.ensures.found);
}

pub returns-in-Some-clause-fresh : goal.returns-in-Some-clause-fresh
returns-in-Some-clause-fresh c = tt
