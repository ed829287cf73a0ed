use Rattle.std.proofs.Common.{List, sym, subst}
use Rattle.tl_search.specs.declared.arrival.Arrival.{Arrival}
use Rattle.tl_space.specs.Entries.{entries_from}
use Rattle.tl_space.specs.declared.numbers.Numbers.{Numbers}
use Rattle.tl_syntax.specs.Lists.{Among}
use Rattle.tl_space.proofs.EntryLaws.{other-among, among-right}
use Rattle.tl_space.proofs.Keeping.{numbers_eq, numbers-tells}
use Rattle.tl_space.proofs.arrivals.Arrivals.get_other.Goals as goal

pub returns-in-Some : goal.returns-in-Some
returns-in-Some c =
    let s = c.self.inside in
    let e : Numbers × Arrival = (c.args.key, c.in-Some.arrival.now) in
    subst (λ (es : List (Numbers × Arrival)). Among e es) c.self.view_is
    (among-right e (entries_from 0 s.first.items) s.others.entries (other-among numbers_eq numbers-tells s.others.entries c.args.key
    c.in-Some.arrival.now (sym c.in-Some.ensures.value)))
