use Rattle.std.proofs.Common.{◌≡◌, ◌<◌, ◌≤◌, ◌+◌, ◌-◌, ◌*◌, length, take, drop, sym, ap, ◌∙◌, arith}
use Rattle.std.specs.Prelude.{min}
use Rattle.std.proofs.lemmas.List.{length-drop, take-take}
use Rattle.tl_rows.proofs.EvenRows.{many, part-size, place-in, rows-fit, same-part}
use Rattle.tl_rows.proofs.flat.Flat.same_rows.Goals as goal

pub overflow_sub-self-inside : goal.overflow_sub-self-inside
overflow_sub-self-inside c =
    let all = many c.self.inside.width c.self.inside.count c.self.inside.values.items c.args.self.now c.self.invariant.0 c.self.view_is in
    omega (arith, all, c.requires.row)

pub overflow_sub-other-inside : goal.overflow_sub-other-inside
overflow_sub-other-inside c =
    let all = many c.other.inside.width c.other.inside.count c.other.inside.values.items c.args.other.now c.other.invariant.0
    c.other.view_is in
    omega (arith, all, c.requires.other)

pub returns-then-width-eq0-clause-same : goal.returns-then-width-eq0-clause-same
returns-then-width-eq0-clause-same c =
    let w = c.self.inside.width in
    let n = c.self.inside.count in
    let xs = c.self.inside.values.items in
    let m = c.other.inside.count in
    let ys = c.other.inside.values.items in
    let r = c.min.result in
    let least : r ≡ min (n - c.args.k) (m - c.args.l) = c.min.ensures in
    let all = many w n xs c.args.self.now c.self.invariant.0 c.self.view_is in
    let each = many c.other.inside.width m ys c.args.other.now c.other.invariant.0 c.other.view_is in
    let is : w ≡ c.other.inside.width = omega (arith, c.if-width-other.false) in
    let none : w * r ≡ 0 = ap (λ u. u * r) c.if-width-eq0.true ∙ (let z : 0 * r ≡ 0 = omega arith in z) in
    same-part w n c.other.inside.width m xs ys c.args.self.now c.args.other.now c.self.invariant.0 c.self.view_is c.other.invariant.0
    c.other.view_is is c.args.k c.args.l r
    (omega (arith, all, least, c.requires.row)) (omega (arith, each, least, c.requires.other))
    ((λ i. take (none i) (drop (w * c.args.k) xs)) ∙ sym (λ i. take (none i) (drop (w * c.args.l) ys)))

pub returns-then-width-eq0-clause-many : goal.returns-then-width-eq0-clause-many
returns-then-width-eq0-clause-many c =
    let least : c.min.result ≡ min (c.self.inside.count - c.args.k) (c.other.inside.count - c.args.l) = c.min.ensures in
    let all = many c.self.inside.width c.self.inside.count c.self.inside.values.items c.args.self.now c.self.invariant.0 c.self.view_is in
    part-size c.args.self.now c.args.k c.min.result (omega (arith, all, least, c.requires.row))

pub overflow_mul-width : goal.overflow_mul-width
overflow_mul-width c =
    let b = place-in c.self.inside.width c.self.inside.count c.self.inside.values.items c.args.self.now c.self.invariant.0 c.self.view_is
    c.args.k c.requires.row in
    omega (arith, b, c.self.inside.values.small)

pub values_from-these-requires : goal.values_from-these-requires
values_from-these-requires c =
    let b = place-in c.self.inside.width c.self.inside.count c.self.inside.values.items c.args.self.now c.self.invariant.0 c.self.view_is
    c.args.k c.requires.row in
    omega (arith, b, ap length c.as_slice.ensures.value)

pub overflow_mul-width-2 : goal.overflow_mul-width-2
overflow_mul-width-2 c =
    let is : c.self.inside.width ≡ c.other.inside.width = omega (arith, c.if-width-other.false) in
    let b = place-in c.other.inside.width c.other.inside.count c.other.inside.values.items c.args.other.now c.other.invariant.0
    c.other.view_is c.args.l c.requires.other in
    omega (arith, b, ap (λ u. u * c.args.l) is, c.other.inside.values.small)

pub values_from-those-requires : goal.values_from-those-requires
values_from-those-requires c =
    let is : c.self.inside.width ≡ c.other.inside.width = omega (arith, c.if-width-other.false) in
    let b = place-in c.other.inside.width c.other.inside.count c.other.inside.values.items c.args.other.now c.other.invariant.0
    c.other.view_is c.args.l c.requires.other in
    omega (arith, b, ap (λ u. u * c.args.l) is, ap length c.as_slice-2.ensures.value)

pub returns-clause-same : goal.returns-clause-same
returns-clause-same c =
    let w = c.self.inside.width in
    let n = c.self.inside.count in
    let xs = c.self.inside.values.items in
    let m = c.other.inside.count in
    let ys = c.other.inside.values.items in
    let r = c.whole_rows.result in
    let s = c.count_same.result in
    let is : w ≡ c.other.inside.width = omega (arith, c.if-width-other.false) in
    let some : 0 < w = omega (arith, c.if-width-eq0.false) in
    let these : c.values_from-these.result.now ≡ drop (w * c.args.k) xs = c.values_from-these.ensures ∙
    ap (drop (w * c.args.k)) c.as_slice.ensures.value in
    let those : c.values_from-those.result.now ≡ drop (w * c.args.l) ys = c.values_from-those.ensures ∙
    ap (drop (w * c.args.l)) c.as_slice-2.ensures.value in
    let b = place-in w n xs c.args.self.now c.self.invariant.0 c.self.view_is c.args.k c.requires.row in
    let d = place-in c.other.inside.width m ys c.args.other.now c.other.invariant.0 c.other.view_is c.args.l c.requires.other in
    let at = ap (λ u. u * c.args.l) is in
    let left : w * c.args.k + w * r ≤ length xs =
    let p = ap length these in let q = length-drop (w * c.args.k) xs in
    omega (arith, p, q, b, c.count_same.ensures.within, c.whole_rows.ensures) in
    let right : w * c.args.l + w * r ≤ length ys =
    let p = ap length those in let q = length-drop (w * c.args.l) ys in
    omega (arith, p, q, d, at, c.count_same.ensures.other, c.whole_rows.ensures) in
    let size : w * m ≡ length ys = ap (λ u. u * m) is ∙ c.other.invariant.0 in
    let values : take s (drop (w * c.args.k) xs) ≡ take s (drop (w * c.args.l) ys) = sym (ap (take s) these) ∙
    (c.count_same.ensures.same ∙ ap (take s) those) in
    same-part w n c.other.inside.width m xs ys c.args.self.now c.args.other.now c.self.invariant.0 c.self.view_is c.other.invariant.0
    c.other.view_is is c.args.k c.args.l r
    (rows-fit w n c.args.k r xs some c.self.invariant.0 left) (rows-fit w m c.args.l r ys some size right)
    (sym (take-take (w * r) s (drop (w * c.args.k) xs) c.whole_rows.ensures) ∙
    (ap (take (w * r)) values ∙ take-take (w * r) s (drop (w * c.args.l) ys) c.whole_rows.ensures))

pub returns-clause-many : goal.returns-clause-many
returns-clause-many c =
    let w = c.self.inside.width in
    let n = c.self.inside.count in
    let xs = c.self.inside.values.items in
    let r = c.whole_rows.result in
    let some : 0 < w = omega (arith, c.if-width-eq0.false) in
    let all = many w n xs c.args.self.now c.self.invariant.0 c.self.view_is in
    let these : c.values_from-these.result.now ≡ drop (w * c.args.k) xs = c.values_from-these.ensures ∙
    ap (drop (w * c.args.k)) c.as_slice.ensures.value in
    let b = place-in w n xs c.args.self.now c.self.invariant.0 c.self.view_is c.args.k c.requires.row in
    let left : w * c.args.k + w * r ≤ length xs =
    let p = ap length these in let q = length-drop (w * c.args.k) xs in
    omega (arith, p, q, b, c.count_same.ensures.within, c.whole_rows.ensures) in
    let fit = rows-fit w n c.args.k r xs some c.self.invariant.0 left in
    part-size c.args.self.now c.args.k r (omega (arith, all, fit))
