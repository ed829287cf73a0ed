use Rattle.std.proofs.Common.{refl, sym, subst}
use Rattle.tl_space.specs.Entries.{entries_from, HasOneMore}
use Rattle.tl_space.specs.declared.arrivals.FirstArrival.{FirstArrival}
use Rattle.std.proofs.Common.{List}
use Rattle.tl_space.proofs.EntryLaws.{one-more-first, no-more}
use Rattle.tl_space.proofs.arrivals.add_first.Goals as goal

pub returns-in-Ok : goal.returns-in-Ok
returns-in-Ok c = one-more-first c.args.first.now.items c.push.new.self.items
    (record { label = c.args.key.label; arrival = c.args.arrival }) c.args.key c.requires refl c.in-Ok.ensures.items

pub returns-in-Err : goal.returns-in-Err
returns-in-Err c =
    let old = c.args.first.now.items in
    subst (λ (xs : List FirstArrival). HasOneMore (entries_from 0 old) (c.args.key, c.args.arrival) (entries_from 0 xs))
    (sym c.in-Err.ensures.items) (no-more (entries_from 0 old) (c.args.key, c.args.arrival))
