use Rattle.std.proofs.Common.{sym, ◌∙◌}
use Rattle.tl_problem.proofs.PlaceLookups.{place-inserted, none-from}
use Rattle.tl_problem.proofs.place_map.PlaceMap.insert.Goals as goal

pub returns-in_ok-insert : goal.returns-in_ok-insert
returns-in_ok-insert c = place-inserted c.args.place c.args.value c.self.inside.values.entries c.insert.new.self.entries c.args.self.now
    c.self.view_is c.in_ok-insert.ensures.entries (sym c.value.ensures ∙
    none-from c.value.result c.is_none.result c.if-is_none.true c.is_none.ensures)
