use Rattle.std.proofs.Common.{◌≡◌, ◌<◌, length, get_or, ap, ◌∙◌, arith}
use Rattle.tl_rows.specs.Places.{place_rows}
use Rattle.tl_rows.proofs.PlaceLists.{count, value-at}
use Rattle.tl_rows.proofs.table.PlaceRows.value.Goals as goal

pub index-requires : goal.index-requires
index-requires c =
    let n = count c.self.inside.args.value c.self.inside.values.items c.self.invariant.0 in
    let v : length (place_rows c.self.inside.args.value c.self.inside.values.items) ≡ length c.args.self.now = ap length c.self.view_is in
    omega (arith, n, v, c.requires)

pub returns : goal.returns
returns c d =
    let n = count c.self.inside.args.value c.self.inside.values.items c.self.invariant.0 in
    let v : length (place_rows c.self.inside.args.value c.self.inside.values.items) ≡ length c.args.self.now = ap length c.self.view_is in
    let p : c.args.k < length c.self.inside.values.items = omega (arith, n, v, c.requires) in
    c.index.ensures ∙ (value-at c.self.inside.args.value c.self.inside.values.items c.args.k c.index.result.now d c.self.invariant.0 p ∙
    ap (λ rs. (get_or rs c.args.k d).value) c.self.view_is)
