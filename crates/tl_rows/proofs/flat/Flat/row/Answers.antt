use Rattle.std.proofs.Common.{◌*◌, length, take, drop, ap, ◌∙◌, arith}
use Rattle.tl_rows.proofs.EvenRows.{row-in, row-within}
use Rattle.tl_rows.proofs.flat.Flat.row.Goals as goal

pub overflow_mul-self-inside : goal.overflow_mul-self-inside
overflow_mul-self-inside c =
    let b = row-within c.self.inside.width c.self.inside.count c.self.inside.values.items c.args.self.now c.self.invariant.0 c.self.view_is
    c.args.k c.requires in
    omega (arith, b, c.self.inside.values.small)

pub run-requires : goal.run-requires
run-requires c =
    let b = row-within c.self.inside.width c.self.inside.count c.self.inside.values.items c.args.self.now c.self.invariant.0 c.self.view_is
    c.args.k c.requires in
    omega (arith, b, ap length c.as_slice.ensures.value)

pub returns : goal.returns
returns c =
    let w = c.self.inside.width in
    let k = c.args.k in
    c.run.ensures
    ∙ (ap (λ ys. take w (drop (w * k) ys)) c.as_slice.ensures.value
    ∙ row-in w c.self.inside.count c.self.inside.values.items c.args.self.now c.self.invariant.0 c.self.view_is k c.run.result.now
    c.requires)
