use Rattle.std.proofs.Common.{List, subst, ◌++◌}
use Rattle.tl_search.specs.declared.arrival.Arrival.{Arrival}
use Rattle.tl_space.specs.Entries.{entries_from, HasOneMore}
use Rattle.tl_space.specs.declared.numbers.Numbers.{Numbers}
use Rattle.tl_space.proofs.EntryLaws.{more-front, more-back}
use Rattle.tl_space.proofs.arrivals.Arrivals.remember.Goals as goal

pub returns-then-key-len : goal.returns-then-key-len
returns-then-key-len c =
    let s = c.self.inside in
    let e : Numbers × Arrival = (c.args.key, c.args.arrival) in
    subst (λ (xs : List (Numbers × Arrival)). HasOneMore xs e (entries_from 0 c.add_first.new.first.items ++ s.others.entries))
    c.self.view_is
    (more-front (entries_from 0 s.first.items) (entries_from 0 c.add_first.new.first.items) s.others.entries e c.add_first.ensures)

pub returns-else-key-len : goal.returns-else-key-len
returns-else-key-len c =
    let s = c.self.inside in
    let e : Numbers × Arrival = (c.args.key, c.args.arrival) in
    subst (λ (xs : List (Numbers × Arrival)). HasOneMore xs e (entries_from 0 s.first.items ++ c.add_other.new.others.entries))
    c.self.view_is
    (more-back s.others.entries c.add_other.new.others.entries (entries_from 0 s.first.items) e c.add_other.ensures)
