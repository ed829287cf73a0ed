use Rattle.std.proofs.Common.{◌≡◌, length, sym, ap, ◌∙◌, rules}
use Rattle.tl_rows.proofs.PlaceLists.{count}
use Rattle.tl_rows.proofs.table.PlaceRows.len.Goals as goal

pub returns : goal.returns
returns c =
    let n = count c.self.inside.args.value c.self.inside.values.items c.self.invariant.0 in
    let l : c.len.result ≡ length c.self.inside.values.items = search rules in
    l ∙ (sym n ∙ ap length c.self.view_is)
