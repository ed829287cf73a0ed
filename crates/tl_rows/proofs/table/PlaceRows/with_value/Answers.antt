use Rattle.std.proofs.Common.{◌≡◌, ◌<◌, ◌≤◌, ◌^◌, [], length, get_or, sym, ap, ◌∙◌, arith, rules}
use Rattle.std.proofs.Math.ListN.{length-set}
use Rattle.std.specs.Prelude.{pos, slice_set}
use Rattle.tl_syntax.specs.declared.value.Value.TheVariants.{Int}
use Rattle.tl_rows.specs.declared.table.PlaceRow.{PlaceRow}
use Rattle.tl_rows.specs.Codes.{places_code}
use Rattle.tl_rows.specs.Places.{place_rows, place_set}
use Rattle.tl_rows.proofs.PlaceLists.{count, args-at, value-at, set-at, code-set}
use Rattle.tl_rows.proofs.table.PlaceRows.with_value.Goals as goal

pub row-args-requires : goal.row-args-requires
row-args-requires c =
    let us = c.self.inside.args.value in
    let vs = c.self.inside.values.items in
    let k = c.args.k in
    let same = c.self.invariant.0 in
    let n = count us vs same in
    let v : length (place_rows us vs) ≡ length c.args.self.now = ap length c.self.view_is in
    let p : k < length vs = omega (arith, n, v, c.requires) in
    let e : length c.deref.result.now ≡ length us = ap length c.deref.ensures in
    omega (arith, e, same, p)

pub index-requires : goal.index-requires
index-requires c =
    let us = c.self.inside.args.value in
    let vs = c.self.inside.values.items in
    let k = c.args.k in
    let same = c.self.invariant.0 in
    let n = count us vs same in
    let v : length (place_rows us vs) ≡ length c.args.self.now = ap length c.self.view_is in
    let p : k < length vs = omega (arith, n, v, c.requires) in
    omega (arith, p)

pub values_set-requires : goal.values_set-requires
values_set-requires c =
    let us = c.self.inside.args.value in
    let vs = c.self.inside.values.items in
    let k = c.args.k in
    let same = c.self.invariant.0 in
    let n = count us vs same in
    let v : length (place_rows us vs) ≡ length c.args.self.now = ap length c.self.view_is in
    let p : k < length vs = omega (arith, n, v, c.requires) in
    let e : length c.as_slice.result.now ≡ length vs = ap length c.as_slice.ensures.value in
    omega (arith, e, p)

pub invariant_of-result : goal.invariant_of-result
invariant_of-result c =
    let us = c.self.inside.args.value in
    let vs = c.self.inside.values.items in
    let k = c.args.k in
    let same = c.self.invariant.0 in
    let n = count us vs same in
    let v : length (place_rows us vs) ≡ length c.args.self.now = ap length c.self.view_is in
    let p : k < length vs = omega (arith, n, v, c.requires) in
    let d : PlaceRow = record { args = []; value = Int (pos 0) } in
    let args = c.row-args.result.now in
    let a : args ≡ (get_or (place_rows us vs) k d).args = c.row-args.ensures ∙
    (ap (λ xs. get_or xs k args) c.deref.ensures ∙ args-at us vs k args d same p) in
    let o : c.index.result.now ≡ (get_or (place_rows us vs) k d).value = c.index.ensures ∙ value-at us vs k c.index.result.now d same p in
    let fits : c.code_of_place.result ≤ 2 ^ 64 = first_of (omega arith, search rules) in
    let q : k < length (place_rows us vs) = omega (arith, n, p) in
    let code = code-set c.self.inside.code c.code_of_place.result c.code_of_place-2.result k
    (place_rows us vs) args c.index.result.now c.args.value d c.self.invariant.1 c.code_of_place.ensures c.code_of_place-2.ensures fits
    a o q in
    let ws = c.in_ok-values_set.field-0.items in
    let made : ws ≡ slice_set vs k c.args.value = c.in_ok-values_set.ensures ∙
    ap (λ xs. slice_set xs k c.args.value) c.as_slice.ensures.value in
    let kept : c.in_ok-clone.field-0.value ≡ us = c.in_ok-clone.ensures.cases in
    let rows : place_rows c.in_ok-clone.field-0.value ws ≡ place_set (place_rows us vs) k c.args.value =
    (λ i. place_rows (kept i) (made i)) ∙ set-at us vs k c.args.value same p in
    (ap length kept ∙ (same ∙ (sym (length-set vs k c.args.value) ∙ sym (ap length made))), code ∙ ap places_code (sym rows))

pub returns : goal.returns
returns c =
    let us = c.self.inside.args.value in
    let vs = c.self.inside.values.items in
    let k = c.args.k in
    let same = c.self.invariant.0 in
    let n = count us vs same in
    let v : length (place_rows us vs) ≡ length c.args.self.now = ap length c.self.view_is in
    let p : k < length vs = omega (arith, n, v, c.requires) in
    let ws = c.in_ok-values_set.field-0.items in
    let made : ws ≡ slice_set vs k c.args.value = c.in_ok-values_set.ensures ∙
    ap (λ xs. slice_set xs k c.args.value) c.as_slice.ensures.value in
    let kept : c.in_ok-clone.field-0.value ≡ us = c.in_ok-clone.ensures.cases in
    let rows : place_rows c.in_ok-clone.field-0.value ws ≡ place_set (place_rows us vs) k c.args.value =
    (λ i. place_rows (kept i) (made i)) ∙ set-at us vs k c.args.value same p in
    rows ∙ ap (λ rs. place_set rs k c.args.value) c.self.view_is
