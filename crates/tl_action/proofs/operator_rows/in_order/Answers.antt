use Rattle.std.proofs.lemmas.List.Filters.{dedup_is}
use Rattle.tl_action.proofs.SortedRows.{settled}
use Rattle.tl_world.proofs.Alike.{values_eq}
use Rattle.tl_action.proofs.operator_rows.in_order.Goals as goal

pub returns : goal.returns
returns c = settled c.args.rows.items c.sort_unstable.new.self.items c.dedup.new.self.items c.sort_unstable.ensures.permutation
    c.sort_unstable.ensures.sorted (dedup_is values_eq c.sort_unstable.new.self.items c.dedup.new.self.items c.dedup.ensures.filtered)
