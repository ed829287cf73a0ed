use Rattle.std.proofs.Common.{sym, subst}
use Rattle.tl_space.specs.Entries.{HasOneMore}
use Rattle.tl_space.proofs.EntryLaws.{one-more-other, no-more}
use Rattle.tl_space.proofs.Keeping.{numbers_eq, numbers-tells}
use Rattle.tl_space.proofs.arrivals.add_other.Goals as goal

pub returns-in-Ok : goal.returns-in-Ok
returns-in-Ok c = one-more-other numbers_eq numbers-tells c.args.others.now.entries c.insert.new.self.entries c.args.key c.args.arrival
    c.in-Ok.ensures.entries

pub returns-in-Err : goal.returns-in-Err
returns-in-Err c =
    let old = c.args.others.now.entries in
    subst (HasOneMore old (c.args.key, c.args.arrival)) (sym c.in-Err.ensures.err) (no-more old (c.args.key, c.args.arrival))
