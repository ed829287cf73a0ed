use Rattle.std.proofs.Common.{◌≡◌, ◌<◌, length, get_or, ap, ◌∙◌, arith}
use Rattle.tl_rows.specs.Places.{place_rows}
use Rattle.tl_rows.proofs.PlaceLists.{count, args-at}
use Rattle.tl_rows.proofs.table.PlaceRows.args.Goals as goal

pub row-requires : goal.row-requires
row-requires c =
    let n = count c.self.inside.args.value c.self.inside.values.items c.self.invariant.0 in
    let v : length (place_rows c.self.inside.args.value c.self.inside.values.items) ≡ length c.args.self.now = ap length c.self.view_is in
    let d : length c.deref.result.now ≡ length c.self.inside.args.value = ap length c.deref.ensures in
    omega (arith, n, v, d, c.self.invariant.0, c.requires)

pub returns : goal.returns
returns c d =
    let n = count c.self.inside.args.value c.self.inside.values.items c.self.invariant.0 in
    let v : length (place_rows c.self.inside.args.value c.self.inside.values.items) ≡ length c.args.self.now = ap length c.self.view_is in
    let p : c.args.k < length c.self.inside.values.items = omega (arith, n, v, c.requires) in
    c.row.ensures ∙ (ap (λ xs. get_or xs c.args.k c.row.result.now) c.deref.ensures ∙
    (args-at c.self.inside.args.value c.self.inside.values.items c.args.k c.row.result.now d c.self.invariant.0 p ∙
    ap (λ rs. (get_or rs c.args.k d).args) c.self.view_is))
