use Rattle.std.proofs.Common.{◌≡◌, ◌+◌, ◌*◌, ◌++◌, ◌∷◌, [], length, length-append, refl, ap, ◌∙◌, arith}
use Rattle.tl_rows.specs.Cuts.{even_rows}
use Rattle.tl_rows.proofs.EvenRows.{alike, more-size, one-more}
use Rattle.tl_rows.proofs.flat.Flat.push.Goals as goal

pub invariant_of-self-2 : goal.invariant_of-self-2
invariant_of-self-2 c =
    let xs = c.self.inside.values.items in
    let row = c.args.row.now in
    let n = c.self.inside.count in
    let a = alike c.self.inside.width n xs c.args.self.now c.self.invariant.0 c.self.view_is (length row) c.requires in
    let l = ap length c.in_ok-extend_from_slice.ensures.items ∙ length-append xs row in
    let m = more-size (length row) n (n + 1) refl in
    let size : length row * n ≡ length xs = a.1 in
    ((let e : length row * (n + 1) ≡ length c.extend_from_slice.new.self.items = omega (arith, m, l, size) in e), omega arith)

pub returns : goal.returns
returns c =
    let xs = c.self.inside.values.items in
    let row = c.args.row.now in
    let n = c.self.inside.count in
    let a = alike c.self.inside.width n xs c.args.self.now c.self.invariant.0 c.self.view_is (length row) c.requires in
    ap (even_rows (length row) (n + 1)) c.in_ok-extend_from_slice.ensures.items
    ∙ (one-more (length row) n xs row a.1 refl ∙ ap (λ rs. rs ++ row ∷ []) a.0)
