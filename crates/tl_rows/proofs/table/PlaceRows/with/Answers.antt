use Rattle.std.proofs.Common.{◌≡◌, ◌≤◌, [], length, sym, ap, ◌∙◌, arith, ◌∷◌, ◌++◌, take, drop}
use Rattle.std.specs.List.{insert}
use Rattle.std.proofs.lemmas.List.Edits.{length-insert}
use Rattle.tl_rows.specs.Places.{place_rows}
use Rattle.tl_rows.proofs.PlaceLists.{count, insert-at, code-added, with-is}
use Rattle.tl_rows.proofs.table.PlaceRows.with.Goals as goal

pub with-requires : goal.with-requires
with-requires c =
    let us = c.self.inside.args.value in
    let vs = c.self.inside.values.items in
    let k = c.args.k in
    let same = c.self.invariant.0 in
    let n = count us vs same in
    let v : length (place_rows us vs) ≡ length c.args.self.now = ap length c.self.view_is in
    let e : length c.deref.result.now ≡ length us = ap length c.deref.ensures in
    omega (arith, e, n, v, same, c.requires)

pub values_with-requires : goal.values_with-requires
values_with-requires c =
    let us = c.self.inside.args.value in
    let vs = c.self.inside.values.items in
    let k = c.args.k in
    let same = c.self.invariant.0 in
    let n = count us vs same in
    let v : length (place_rows us vs) ≡ length c.args.self.now = ap length c.self.view_is in
    let e : length c.as_slice.result.now ≡ length vs = ap length c.as_slice.ensures.value in
    omega (arith, e, n, v, c.requires)

pub invariant_of-result : goal.invariant_of-result
invariant_of-result c =
    let us = c.self.inside.args.value in
    let vs = c.self.inside.values.items in
    let k = c.args.k in
    let same = c.self.invariant.0 in
    let n = count us vs same in
    let v : length (place_rows us vs) ≡ length c.args.self.now = ap length c.self.view_is in
    let p : k ≤ length vs = omega (arith, n, v, c.requires) in
    let row = c.args.args.now in
    let x = c.args.value in
    let xs = c.in_ok-new.field-0.value in
    let ws = c.in_ok-values_with.field-0.items in
    let list : xs ≡ insert us k row = c.in_ok-new.ensures.ok ∙ (c.in_ok-list.ensures ∙ ap (λ zs. insert zs k row) c.deref.ensures) in
    let made : ws ≡ insert vs k x = c.in_ok-values_with.ensures ∙ (ap (λ zs. take k zs ++ (x ∷ [] ++ drop k zs)) c.as_slice.ensures.value ∙
    with-is vs k x p) in
    let rows : place_rows xs ws ≡ insert (place_rows us vs) k (record { args = row; value = x }) = (λ i. place_rows (list i) (made i)) ∙
    insert-at us vs k row x same p in
    let l1 = length-insert us k row (omega (arith, same, p)) in
    let l2 = length-insert vs k x p in (
      ap length list ∙ ((let e : length (insert us k row) ≡ length (insert vs k x) = omega (arith, l1, l2, same) in e) ∙
          sym (ap length made)),
      code-added c.self.inside.code c.code_of_place.result k (place_rows us vs) (place_rows xs ws)
          (record { args = row; value = x }) c.self.invariant.1 c.code_of_place.ensures rows,
    )

pub returns : goal.returns
returns c =
    let us = c.self.inside.args.value in
    let vs = c.self.inside.values.items in
    let k = c.args.k in
    let same = c.self.invariant.0 in
    let n = count us vs same in
    let v : length (place_rows us vs) ≡ length c.args.self.now = ap length c.self.view_is in
    let p : k ≤ length vs = omega (arith, n, v, c.requires) in
    let row = c.args.args.now in
    let x = c.args.value in
    let xs = c.in_ok-new.field-0.value in
    let ws = c.in_ok-values_with.field-0.items in
    let list : xs ≡ insert us k row = c.in_ok-new.ensures.ok ∙ (c.in_ok-list.ensures ∙ ap (λ zs. insert zs k row) c.deref.ensures) in
    let made : ws ≡ insert vs k x = c.in_ok-values_with.ensures ∙ (ap (λ zs. take k zs ++ (x ∷ [] ++ drop k zs)) c.as_slice.ensures.value ∙
    with-is vs k x p) in
    let rows : place_rows xs ws ≡ insert (place_rows us vs) k (record { args = row; value = x }) = (λ i. place_rows (list i) (made i)) ∙
    insert-at us vs k row x same p in
    rows ∙ ap (λ rs. insert rs k (record { args = row; value = x })) c.self.view_is
