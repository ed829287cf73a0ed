use Rattle.std.proofs.Common.{◌+◌, ◌*◌, length, refl, sym, ap, ◌∙◌, arith}
use Rattle.std.specs.List.{insert}
use Rattle.tl_rows.specs.Cuts.{even_rows, items_with}
use Rattle.tl_rows.proofs.EvenRows.{alike, many, place-within, with-rows, with-size}
use Rattle.tl_rows.proofs.flat.Flat.with.Goals as goal

pub overflow_mul-width : goal.overflow_mul-width
overflow_mul-width c =
    let n = c.self.inside.count in
    let xs = c.self.inside.values.items in
    let all = many c.self.inside.width n xs c.args.self.now c.self.invariant.0 c.self.view_is in
    let a = alike c.self.inside.width n xs c.args.self.now c.self.invariant.0 c.self.view_is (length c.args.row.now) c.requires.fits in
    let b = place-within (length c.args.row.now) n c.args.k xs a.1 (omega (arith, all, c.requires.place)) in
    omega (arith, b, c.self.inside.values.small)

pub values_with-requires : goal.values_with-requires
values_with-requires c =
    let n = c.self.inside.count in
    let xs = c.self.inside.values.items in
    let all = many c.self.inside.width n xs c.args.self.now c.self.invariant.0 c.self.view_is in
    let a = alike c.self.inside.width n xs c.args.self.now c.self.invariant.0 c.self.view_is (length c.args.row.now) c.requires.fits in
    let b = place-within (length c.args.row.now) n c.args.k xs a.1 (omega (arith, all, c.requires.place)) in
    omega (arith, b, ap length c.as_slice.ensures.value)

pub invariant_of-result : goal.invariant_of-result
invariant_of-result c =
    let row = c.args.row.now in
    let n = c.self.inside.count in
    let xs = c.self.inside.values.items in
    let all = many c.self.inside.width n xs c.args.self.now c.self.invariant.0 c.self.view_is in
    let a = alike c.self.inside.width n xs c.args.self.now c.self.invariant.0 c.self.view_is (length row) c.requires.fits in
    let made = c.in_ok-values_with.ensures ∙ ap (λ ys. items_with ys (length row * c.args.k) row) c.as_slice.ensures.value in
    (with-size (length row) n xs a.1 c.args.k row refl (omega (arith, all, c.requires.place)) ∙ sym (ap length made), omega arith)

pub returns : goal.returns
returns c =
    let row = c.args.row.now in
    let n = c.self.inside.count in
    let xs = c.self.inside.values.items in
    let all = many c.self.inside.width n xs c.args.self.now c.self.invariant.0 c.self.view_is in
    let a = alike c.self.inside.width n xs c.args.self.now c.self.invariant.0 c.self.view_is (length row) c.requires.fits in
    let made = c.in_ok-values_with.ensures ∙ ap (λ ys. items_with ys (length row * c.args.k) row) c.as_slice.ensures.value in
    ap (even_rows (length row) (n + 1)) made
    ∙ (with-rows (length row) n xs a.1 c.args.k row refl (omega (arith, all, c.requires.place)) ∙ ap (λ rs. insert rs c.args.k row) a.0)
