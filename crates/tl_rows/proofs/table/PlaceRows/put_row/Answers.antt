use Rattle.std.proofs.Common.{◌≡◌, ◌≤◌, length, sym, ap, ◌∙◌, arith}
use Rattle.std.specs.List.{insert}
use Rattle.std.proofs.lemmas.List.Edits.{length-insert}
use Rattle.tl_rows.specs.Places.{place_rows}
use Rattle.tl_rows.proofs.PlaceLists.{count, insert-at, code-added}
use Rattle.tl_rows.proofs.table.PlaceRows.put_row.Goals as goal

pub insert-requires : goal.insert-requires
insert-requires c =
    let us = c.self.inside.args.value in
    let vs = c.self.inside.values.items in
    let k = c.args.k in
    let same = c.self.invariant.0 in
    let n = count us vs same in
    let v : length (place_rows us vs) ≡ length c.args.self.now = ap length c.self.view_is in
    omega (arith, n, v, c.requires)

pub put_args-requires : goal.put_args-requires
put_args-requires c =
    let us = c.self.inside.args.value in
    let vs = c.self.inside.values.items in
    let k = c.args.k in
    let same = c.self.invariant.0 in
    let n = count us vs same in
    let v : length (place_rows us vs) ≡ length c.args.self.now = ap length c.self.view_is in
    omega (arith, n, v, same, c.requires)

pub invariant_of-self-in-Ok : goal.invariant_of-self-in-Ok
invariant_of-self-in-Ok c =
    let us = c.self.inside.args.value in
    let vs = c.self.inside.values.items in
    let k = c.args.k in
    let same = c.self.invariant.0 in
    let n = count us vs same in
    let v : length (place_rows us vs) ≡ length c.args.self.now = ap length c.self.view_is in
    let p : k ≤ length vs = omega (arith, n, v, c.requires) in
    let row = c.args.args.now in
    let x = c.args.value in
    let list : c.put_args.new.args.value ≡ insert us k row = c.in-Ok.ensures.all in
    let made : c.insert.new.self.items ≡ insert vs k x = c.in_ok-insert.ensures.items in
    let rows : place_rows c.put_args.new.args.value c.insert.new.self.items ≡
    insert (place_rows us vs) k (record { args = row; value = x }) = (λ i. place_rows (list i) (made i)) ∙
    insert-at us vs k row x same p in
    let l1 = length-insert us k row (omega (arith, same, p)) in
    let l2 = length-insert vs k x p in (
      ap length list ∙ ((let e : length (insert us k row) ≡ length (insert vs k x) = omega (arith, l1, l2, same) in e) ∙
          sym (ap length made)),
      code-added c.self.inside.code c.code_of_place.result k (place_rows us vs)
          (place_rows c.put_args.new.args.value c.insert.new.self.items)
          (record { args = row; value = x }) c.self.invariant.1 c.code_of_place.ensures rows,
    )

pub remove-requires : goal.remove-requires
remove-requires c =
    let us = c.self.inside.args.value in
    let vs = c.self.inside.values.items in
    let k = c.args.k in
    let same = c.self.invariant.0 in
    let n = count us vs same in
    let v : length (place_rows us vs) ≡ length c.args.self.now = ap length c.self.view_is in
    let p : k ≤ length vs = omega (arith, n, v, c.requires) in
    let made : c.insert.new.self.items ≡ insert vs k c.args.value = c.in_ok-insert.ensures.items in
    let l = length-insert vs k c.args.value p in
    let m = ap length made in
    omega (arith, l, m, p)

pub returns-in-Ok : goal.returns-in-Ok
returns-in-Ok c =
    let us = c.self.inside.args.value in
    let vs = c.self.inside.values.items in
    let k = c.args.k in
    let same = c.self.invariant.0 in
    let n = count us vs same in
    let v : length (place_rows us vs) ≡ length c.args.self.now = ap length c.self.view_is in
    let p : k ≤ length vs = omega (arith, n, v, c.requires) in
    let row = c.args.args.now in
    let x = c.args.value in
    let list : c.put_args.new.args.value ≡ insert us k row = c.in-Ok.ensures.all in
    let made : c.insert.new.self.items ≡ insert vs k x = c.in_ok-insert.ensures.items in
    let rows : place_rows c.put_args.new.args.value c.insert.new.self.items ≡
    insert (place_rows us vs) k (record { args = row; value = x }) = (λ i. place_rows (list i) (made i)) ∙
    insert-at us vs k row x same p in
    rows ∙ ap (λ rs. insert rs k (record { args = row; value = x })) c.self.view_is
