use Rattle.std.proofs.Common.{◌≡◌, ◌+◌, ◌-◌, ◌*◌, ◌++◌, ℕ, List, length, length-append, sym, ap, ◌∙◌, subst, arith}
use Rattle.std.proofs.Math.Nat.{mul-add}
use Rattle.tl_syntax.specs.declared.value.Value.{Value}
use Rattle.tl_rows.specs.Cuts.{even_rows, HaveWidth}
use Rattle.tl_rows.proofs.EvenRows.{alike, have-width, joined, many, width-of}
use Rattle.tl_rows.proofs.flat.Flat.push_rows.Goals as goal

pub overflow_add-self-inside : goal.overflow_add-self-inside
overflow_add-self-inside c =
    let all = many c.other.inside.width c.other.inside.count c.other.inside.values.items c.args.other.now c.other.invariant.0
    c.other.view_is in
    omega (arith, all, c.requires.bound, c.requires.range, c.other.invariant.1, c.self.invariant.1)

pub invariant_of-self-2 : goal.invariant_of-self-2
invariant_of-self-2 c =
    let u = c.other.inside.width in
    let m = c.other.inside.count in
    let ys = c.other.inside.values.items in
    let n = c.self.inside.count in
    let xs = c.self.inside.values.items in
    let k = c.args.to - c.args.from in
    let P : List (List Value) → Type 0 = HaveWidth u in
    let all = many u m ys c.args.other.now c.other.invariant.0 c.other.view_is in
    let is = width-of u m ys c.args.other.now c.other.invariant.0 c.other.view_is c.requires.fits.0 c.requires.fits.2
    (omega (arith, all, c.requires.bound, c.requires.range)) in
    let Q : ℕ → Type 0 = λ s. HaveWidth s c.args.self.now in
    let a = alike c.self.inside.width n xs c.args.self.now c.self.invariant.0 c.self.view_is u (subst Q (sym is) c.requires.fits.1) in
    let wide : HaveWidth u c.args.other.now = subst P c.other.view_is (have-width u m ys c.other.invariant.0) in
    let size = c.values_of.ensures.size u wide in
    let l = ap length c.in_ok-extend_from_slice.ensures.items ∙ length-append xs c.values_of.result.now in
    let s = mul-add u n k in
    let first : u * n ≡ length xs = a.1 in
    ((let e : u * (n + k) ≡ length c.extend_from_slice.new.self.items = omega (arith, s, l, size, first) in e), omega arith)

pub returns : goal.returns
returns c =
    let u = c.other.inside.width in
    let m = c.other.inside.count in
    let ys = c.other.inside.values.items in
    let n = c.self.inside.count in
    let xs = c.self.inside.values.items in
    let k = c.args.to - c.args.from in
    let P : List (List Value) → Type 0 = HaveWidth u in
    let all = many u m ys c.args.other.now c.other.invariant.0 c.other.view_is in
    let is = width-of u m ys c.args.other.now c.other.invariant.0 c.other.view_is c.requires.fits.0 c.requires.fits.2
    (omega (arith, all, c.requires.bound, c.requires.range)) in
    let Q : ℕ → Type 0 = λ s. HaveWidth s c.args.self.now in
    let a = alike c.self.inside.width n xs c.args.self.now c.self.invariant.0 c.self.view_is u (subst Q (sym is) c.requires.fits.1) in
    let wide : HaveWidth u c.args.other.now = subst P c.other.view_is (have-width u m ys c.other.invariant.0) in
    ap (even_rows u (n + k)) c.in_ok-extend_from_slice.ensures.items
    ∙ (joined u n k xs c.values_of.result.now a.1 ∙ λ i. a.0 i ++ c.values_of.ensures.rows u wide i)
