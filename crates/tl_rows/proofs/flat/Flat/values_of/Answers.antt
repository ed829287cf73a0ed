use Rattle.std.proofs.Common.{◌≡◌, ◌-◌, ◌*◌, length, take, drop, sym, ap, ◌∙◌, arith}
use Rattle.std.proofs.lemmas.List.{length-drop, length-take-le}
use Rattle.tl_rows.specs.Cuts.{even_rows}
use Rattle.tl_rows.specs.Runs.{between}
use Rattle.tl_rows.proofs.EvenRows.{many, some-rows, some-size, width-of}
use Rattle.tl_rows.proofs.flat.Flat.values_of.Goals as goal

pub overflow_mul-self-inside : goal.overflow_mul-self-inside
overflow_mul-self-inside c =
    let w = c.self.inside.width in
    let n = c.self.inside.count in
    let xs = c.self.inside.values.items in
    let all = many w n xs c.args.self.now c.self.invariant.0 c.self.view_is in
    let s = some-size w n c.args.from c.args.to xs c.self.invariant.0 (omega (arith, c.requires.range))
    (omega (arith, all, c.requires.bound)) in
    omega (arith, s, c.self.inside.values.small)

pub overflow_mul-self-inside-2 : goal.overflow_mul-self-inside-2
overflow_mul-self-inside-2 c =
    let w = c.self.inside.width in
    let n = c.self.inside.count in
    let xs = c.self.inside.values.items in
    let all = many w n xs c.args.self.now c.self.invariant.0 c.self.view_is in
    let s = some-size w n c.args.from c.args.to xs c.self.invariant.0 (omega (arith, c.requires.range))
    (omega (arith, all, c.requires.bound)) in
    omega (arith, s, c.self.inside.values.small)

pub run-requires : goal.run-requires
run-requires c =
    let w = c.self.inside.width in
    let n = c.self.inside.count in
    let xs = c.self.inside.values.items in
    let all = many w n xs c.args.self.now c.self.invariant.0 c.self.view_is in
    let s = some-size w n c.args.from c.args.to xs c.self.invariant.0 (omega (arith, c.requires.range))
    (omega (arith, all, c.requires.bound)) in
    omega (arith, s, ap length c.as_slice.ensures.value)

pub returns-clause-rows : goal.returns-clause-rows
returns-clause-rows c s h =
    let w = c.self.inside.width in
    let n = c.self.inside.count in
    let xs = c.self.inside.values.items in
    let all = many w n xs c.args.self.now c.self.invariant.0 c.self.view_is in
    let is : w ≡ s = width-of w n xs c.args.self.now c.self.invariant.0 c.self.view_is s h
    (omega (arith, all, c.requires.range, c.requires.bound)) in
    ap (even_rows s (c.args.to - c.args.from)) (c.run.ensures ∙ ap (λ ys. take (w * (c.args.to - c.args.from)) (drop (w * c.args.from) ys))
    c.as_slice.ensures.value)
    ∙ (ap (λ u. even_rows u (c.args.to - c.args.from) (take (w * (c.args.to - c.args.from)) (drop (w * c.args.from) xs))) (sym is)
    ∙ (some-rows w n c.args.from c.args.to xs (omega (arith, c.requires.range)) (omega (arith, all, c.requires.bound)) ∙
    ap (λ rs. between rs c.args.from c.args.to) c.self.view_is))

pub returns-clause-size : goal.returns-clause-size
returns-clause-size c s h =
    let w = c.self.inside.width in
    let n = c.self.inside.count in
    let xs = c.self.inside.values.items in
    let all = many w n xs c.args.self.now c.self.invariant.0 c.self.view_is in
    let is : w ≡ s = width-of w n xs c.args.self.now c.self.invariant.0 c.self.view_is s h
    (omega (arith, all, c.requires.range, c.requires.bound)) in
    let t = some-size w n c.args.from c.args.to xs c.self.invariant.0 (omega (arith, c.requires.range))
    (omega (arith, all, c.requires.bound)) in
    let d = length-drop (w * c.args.from) xs in
    let m = length-take-le (w * (c.args.to - c.args.from)) (drop (w * c.args.from) xs) (omega (arith, t, d)) in
    ap (λ u. u * (c.args.to - c.args.from)) (sym is)
    ∙ sym (ap length (c.run.ensures ∙ ap (λ ys. take (w * (c.args.to - c.args.from)) (drop (w * c.args.from) ys)) c.as_slice.ensures.value)
    ∙ m)
