use Rattle.std.proofs.Common.{◌≡◌, ◌<◌, ◌≤◌, ◌^◌, [], length, get_or, sym, ap, ◌∙◌, arith, rules}
use Rattle.std.proofs.Math.ListN.{length-set}
use Rattle.std.specs.Prelude.{pos}
use Rattle.tl_syntax.specs.declared.value.Value.TheVariants.{Int}
use Rattle.tl_rows.specs.declared.table.PlaceRow.{PlaceRow}
use Rattle.tl_rows.specs.Codes.{places_code}
use Rattle.tl_rows.specs.Places.{place_rows, place_set}
use Rattle.tl_rows.proofs.PlaceLists.{count, args-at, value-at, set-at, code-set}
use Rattle.tl_rows.proofs.table.PlaceRows.set_value.Goals as goal

pub row-args-requires : goal.row-args-requires
row-args-requires c =
    let us = c.self.inside.args.value in
    let vs = c.self.inside.values.items in
    let k = c.args.k in
    let same = c.self.invariant.0 in
    let n = count us vs same in
    let v : length (place_rows us vs) ≡ length c.args.self.now = ap length c.self.view_is in
    let p : k < length vs = omega (arith, n, v, c.requires) in
    let e : length c.deref.result.now ≡ length us = ap length c.deref.ensures in
    omega (arith, e, same, p)

pub index-requires : goal.index-requires
index-requires c =
    let us = c.self.inside.args.value in
    let vs = c.self.inside.values.items in
    let k = c.args.k in
    let same = c.self.invariant.0 in
    let n = count us vs same in
    let v : length (place_rows us vs) ≡ length c.args.self.now = ap length c.self.view_is in
    let p : k < length vs = omega (arith, n, v, c.requires) in
    omega (arith, p)

pub index_mut-requires : goal.index_mut-requires
index_mut-requires c =
    let us = c.self.inside.args.value in
    let vs = c.self.inside.values.items in
    let k = c.args.k in
    let same = c.self.invariant.0 in
    let n = count us vs same in
    let v : length (place_rows us vs) ≡ length c.args.self.now = ap length c.self.view_is in
    let p : k < length vs = omega (arith, n, v, c.requires) in
    omega (arith, p)

pub invariant_of-self : goal.invariant_of-self
invariant_of-self c =
    let us = c.self.inside.args.value in
    let vs = c.self.inside.values.items in
    let k = c.args.k in
    let same = c.self.invariant.0 in
    let n = count us vs same in
    let v : length (place_rows us vs) ≡ length c.args.self.now = ap length c.self.view_is in
    let p : k < length vs = omega (arith, n, v, c.requires) in
    let d : PlaceRow = record { args = []; value = Int (pos 0) } in
    let args = c.row-args.result.now in
    let a : args ≡ (get_or (place_rows us vs) k d).args = c.row-args.ensures ∙
    (ap (λ xs. get_or xs k args) c.deref.ensures ∙ args-at us vs k args d same p) in
    let o : c.index.result.now ≡ (get_or (place_rows us vs) k d).value = c.index.ensures ∙ value-at us vs k c.index.result.now d same p in
    let fits : c.code_of_place.result ≤ 2 ^ 64 = first_of (omega arith, search rules) in
    let q : k < length (place_rows us vs) = omega (arith, n, p) in
    let code = code-set c.self.inside.code c.code_of_place.result c.code_of_place-2.result k
    (place_rows us vs) args c.index.result.now c.args.value d c.self.invariant.1 c.code_of_place.ensures c.code_of_place-2.ensures fits
    a o q in
    (same ∙ sym (length-set vs k c.args.value), code ∙ ap places_code (sym (set-at us vs k c.args.value same p)))

pub returns : goal.returns
returns c =
    let us = c.self.inside.args.value in
    let vs = c.self.inside.values.items in
    let k = c.args.k in
    let same = c.self.invariant.0 in
    let n = count us vs same in
    let v : length (place_rows us vs) ≡ length c.args.self.now = ap length c.self.view_is in
    let p : k < length vs = omega (arith, n, v, c.requires) in
    set-at us vs k c.args.value same p ∙ ap (λ rs. place_set rs k c.args.value) c.self.view_is
