use Rattle.std.proofs.Common.{◌≡◌, List, length, slice_get, Some, ltb-true, arith, sym, ap, subst, ◌∙◌}
use Rattle.std.proofs.lemmas.Option.{slice_get-get_or}
use Rattle.tl_search.specs.declared.arrival.Arrival.{Arrival}
use Rattle.tl_space.specs.Entries.{entries_from}
use Rattle.tl_space.specs.declared.arrivals.FirstArrival.{FirstArrival}
use Rattle.tl_space.specs.declared.numbers.Numbers.{Numbers}
use Rattle.tl_syntax.specs.Lists.{Among}
use Rattle.tl_space.proofs.EntryLaws.{first-among, among-left}
use Rattle.tl_space.proofs.arrivals.Arrivals.get_first.Goals as goal

pub returns-then-first-key : goal.returns-then-first-key
returns-then-first-key c =
    let s = c.self.inside in
    let x = c.in_ok-first.first.now in
    let h = c.in_ok-first.ensures.lookup in
    let is : slice_get s.first.items c.args.key.world ≡ Some x = sym (ap
    (λ (xs : List FirstArrival). slice_get xs c.args.key.world) c.deref.ensures.value) ∙
    (slice_get-get_or c.deref.result.now c.args.key.world x (ltb-true c.args.key.world (length c.deref.result.now) (sym h.0)) ∙
    ap (λ z. Some z) (sym h.1)) in
    let e : Numbers × Arrival = (c.args.key, x.arrival) in
    subst (λ (es : List (Numbers × Arrival)). Among e es) c.self.view_is
    (among-left e (entries_from 0 s.first.items) s.others.entries (first-among s.first.items 0 c.args.key.world x c.args.key is
    (omega arith) c.if-first-key.true))
