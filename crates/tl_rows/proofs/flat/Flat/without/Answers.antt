use Rattle.std.proofs.Common.{◌-◌, ◌*◌, length, sym, ap, ◌∙◌, arith}
use Rattle.std.specs.List.{remove}
use Rattle.tl_rows.specs.Cuts.{even_rows, items_without}
use Rattle.tl_rows.proofs.EvenRows.{many, cut-rows, cut-size, row-within}
use Rattle.tl_rows.proofs.flat.Flat.without.Goals as goal

pub overflow_mul-width : goal.overflow_mul-width
overflow_mul-width c =
    let b = row-within c.self.inside.width c.self.inside.count c.self.inside.values.items c.args.self.now c.self.invariant.0 c.self.view_is
    c.args.k c.requires in
    omega (arith, b, c.self.inside.values.small)

pub values_without-requires : goal.values_without-requires
values_without-requires c =
    let b = row-within c.self.inside.width c.self.inside.count c.self.inside.values.items c.args.self.now c.self.invariant.0 c.self.view_is
    c.args.k c.requires in
    omega (arith, b, ap length c.as_slice.ensures.value)

pub invariant_of-result : goal.invariant_of-result
invariant_of-result c =
    let w = c.self.inside.width in
    let n = c.self.inside.count in
    let xs = c.self.inside.values.items in
    let all = many w n xs c.args.self.now c.self.invariant.0 c.self.view_is in
    let made = c.in_ok-values_without.ensures ∙ ap (λ ys. items_without ys (w * c.args.k) w) c.as_slice.ensures.value in
    (cut-size w n xs c.self.invariant.0 c.args.k (omega (arith, all, c.requires)) ∙ sym (ap length made), omega (arith, c.self.invariant.1))

pub returns : goal.returns
returns c =
    let w = c.self.inside.width in
    let n = c.self.inside.count in
    let xs = c.self.inside.values.items in
    let all = many w n xs c.args.self.now c.self.invariant.0 c.self.view_is in
    let made = c.in_ok-values_without.ensures ∙ ap (λ ys. items_without ys (w * c.args.k) w) c.as_slice.ensures.value in
    ap (even_rows w (n - 1)) made
    ∙ (cut-rows w n xs c.self.invariant.0 c.args.k (omega (arith, all, c.requires)) ∙ ap (λ rs. remove rs c.args.k) c.self.view_is)
